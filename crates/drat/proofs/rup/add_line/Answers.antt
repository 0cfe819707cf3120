-- `add_line` meets its contract: by how far the proof has come.
use native.Mathlib.Omega.{arith}
use Rattle.drat.specs.Proofs.{added}
use Rattle.drat.proofs.LinesTaken.{takes_checking, takes_accepted, takes_failed-before}
use Rattle.drat.proofs.rup.add_line.Goals as goal

pub returns-in-Checking : goal.returns-in-Checking
returns-in-Checking c =
    let a = c.args in
    record {
      takes = takes_checking (added a.clause) a.progress a.words.now c.add_checked.result c.add_checked.new.words c.in-Checking.is
          c.add_checked.ensures.takes;
      count_bound = omega (arith, c.add_checked.ensures.count_bound);
    }

pub returns-in-Accepted : goal.returns-in-Accepted
returns-in-Accepted c =
    let a = c.args in
    record { takes = takes_accepted (added a.clause) a.progress a.words.now c.in-Accepted.is; count_bound = omega arith }

pub returns-in-Failed : goal.returns-in-Failed
returns-in-Failed c =
    let a = c.args in
    record { takes = takes_failed-before (added a.clause) a.progress a.words.now c.in-Failed.is; count_bound = omega arith }
