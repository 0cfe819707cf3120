-- `take_deletion` meets its contract: the rows are no more, and how far the proof has come stays.
use Rattle.drat.specs.declared.rup.Progress.{Progress}
use Rattle.drat.proofs.LinesTaken.{takes_deleted}
use Rattle.drat.proofs.LinesRead.{reads_deleted, room_deleted}
use Rattle.drat.proofs.take_deletion.Goals as goal

pub returns : goal.returns
returns c =
    let a = c.args in
    let y = c.delete-left.new.words in
    let next : Progress = record { count = c.delete-left.result; stage = a.checker.progress.stage } in
    record {
      reads = reads_deleted a.checker a.words.now a.clause next y
          (takes_deleted a.checker.progress a.words.now y c.delete-left.result a.clause c.delete-left.ensures.result_after);
      room = room_deleted a.checker a.words.now c.requires next y c.delete-left.ensures.upper_bound c.delete-left.auto.words;
    }
