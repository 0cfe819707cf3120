-- `take_addition` meets its contract: an addition too many, or one more.
use native.Mathlib.Omega.{arith}
use Rattle.drat.proofs.LinesRead.{reads_over, reads-added, room_malformed, room-added}
use Rattle.drat.proofs.take_addition.Goals as goal

pub returns-then-additions-ge256 : goal.returns-then-additions-ge256
returns-then-additions-ge256 c =
    let a = c.args in
    record { reads = reads_over a.checker a.words.now a.clause c.if-additions-ge256.true; room = room_malformed a.checker a.words.now c.requires }

pub returns : goal.returns
returns c =
    let a = c.args in
    record {
      reads = reads-added a.checker a.words.now a.clause c.add_line-next.result c.add_line-next.new.words c.add_line-next.ensures.takes;
      room = room-added a.checker a.words.now c.requires c.add_line-next.result c.add_line-next.new.words (omega arith) c.add_line-next.ensures.count_bound
          c.add_line-next.auto.words;
    }
