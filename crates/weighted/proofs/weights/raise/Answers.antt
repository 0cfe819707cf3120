-- `raise` meets its contract: what is left of the word falls, and its lowest bit's weight is raised at each turn.
use Prim.Native.Nat.{◌-◌, ◌<◌}
use native.Mathlib.Omega.{arith}
use lib.Bits.{and_le_r}
use Rattle.weighted.proofs.Raising.{raising_start, raising_next, raising_end, lowest-below}
use Rattle.weighted.proofs.weights.raise.Goals as goal
use Rattle.weighted.proofs.weights.raise.Goals.{After-lowest-i}

-- the lowest bit of what is left is one of the 32
below : (c : After-lowest-i) → c.lowest-i.result < 32
below c =
    let l = c.loop-left in
    lowest-below _ _ _ l.weights l.left l.invariant c.loop-left-test.true c.lowest-i.result c.lowest-i.ensures

pub loop-left-init : goal.loop-left-init
loop-left-init c = raising_start _ _ _ (omega arith)

pub overflow_cast-i : goal.overflow_cast-i
overflow_cast-i c = record { fits = omega (arith, below c) }

pub offset_bounds-weights-i : goal.offset_bounds-weights-i
offset_bounds-weights-i c = record { fits = omega (arith, below c) }

pub bounds-weights-i : goal.bounds-weights-i
bounds-weights-i c = below c

pub bounds-weights-i-in-loop-left : goal.bounds-weights-i-in-loop-left
bounds-weights-i-in-loop-left c = below (goal.at.bounds-weights-i-in-loop-left c).After-lowest-i

pub loop-left-smaller : goal.loop-left-smaller
loop-left-smaller c = let l = c.loop-left in omega (arith, and_le_r l.left (l.left - 1))

pub loop-left-preserved : goal.loop-left-preserved
loop-left-preserved c =
    let l = c.loop-left in
    let lowest = c.lowest-i in
    raising_next _ _ _ l.weights l.left l.invariant c.loop-left-test.true lowest.result c.lowest-i.ensures

pub returns : goal.returns
returns c =
    let l = c.loop-left in
    raising_end _ _ _ l.weights l.left l.invariant c.loop-left-test.false
