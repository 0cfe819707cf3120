-- `add_checked` meets its contract: one law for each way.
use mathlib.Core.Path.{sym}
use native.Mathlib.Omega.{arith}
use lib.Seq.{length-take-le}
use Rattle.drat.proofs.LinesTaken.{takes_failed, takes_empty, takes_added}
use Rattle.drat.proofs.rup.add_checked.Goals as goal

pub slice_bounds-follows-end-2 : goal.slice_bounds-follows-end-2
slice_bounds-follows-end-2 c = sym (length-take-le _ _ (omega arith))

pub returns-then-not-follows : goal.returns-then-not-follows
returns-then-not-follows c =
    let a = c.args in
    record {
      takes = takes_failed a.words.now a.count a.clause (omega arith) c.follows.result c.follows.ensures c.if-not-follows.true;
      count_bound = omega arith;
    }

pub returns-then-clause-eq0 : goal.returns-then-clause-eq0
returns-then-clause-eq0 c =
    let a = c.args in
    record {
      takes = takes_empty a.words.now a.count a.clause (omega arith) c.follows.result c.follows.ensures c.if-not-follows.false
          c.if-clause-eq0.true;
      count_bound = omega arith;
    }

pub returns : goal.returns
returns c =
    let a = c.args in
    record {
      takes = takes_added a.words.now a.count a.clause (omega arith) c.follows.result c.follows.ensures c.if-not-follows.false
          c.if-clause-eq0.false c.add.new.words c.add.ensures;
      count_bound = omega arith;
    }
