-- `with_rows` meets its contract: what was shown and what is left to look at give what the whole set gives. The measure is what is left.
use Prim.Native.Nat.{◌<◌}
use native.Mathlib.Omega.{arith}
use Rattle.tally.proofs.Looking.{row_low, fewer_left, looked_none, looked_more, looked_all}
use Rattle.tally.proofs.rows.with_rows.Goals as goal
use Rattle.tally.proofs.rows.with_rows.Goals.{After-lowest}

-- the row looked at
row : (c : After-lowest) → c.lowest.result < 64
row c = let l = c.loop-left in row_low _ l.invariant.left-low c.loop-left-test.true _ c.lowest.ensures

pub loop-left-init : goal.loop-left-init
loop-left-init c = looked_none _ _ _ _ _ (omega arith) (omega arith) (omega arith)

pub bounds-words-at : goal.bounds-words-at
bounds-words-at c = omega (arith, row (goal.at.bounds-words-at c).After-lowest)

pub bounds-words-at-in-loop-left : goal.bounds-words-at-in-loop-left
bounds-words-at-in-loop-left c = omega (arith, row (goal.at.bounds-words-at-in-loop-left c).After-lowest)

pub loop-left-smaller : goal.loop-left-smaller
loop-left-smaller c =
    fewer_left _ c.loop-left.invariant.left-low c.loop-left-test.true _ c.lowest.ensures

pub loop-left-preserved : goal.loop-left-preserved
loop-left-preserved c =
    looked_more _ _ _ _ _ _ _ c.loop-left.invariant (omega arith) c.loop-left-test.true _ c.lowest.ensures _ c.with_row-shown.ensures

pub returns : goal.returns
returns c = looked_all _ _ _ _ _ _ _ c.loop-left.invariant c.loop-left-test.false
