-- `turn_row` meets its contract. The loop's invariant: turning the literals left gives what turning all of them gives. The measure is their word.
use Prim.Native.Nat.{◌-◌, ◌<◌}
use native.Mathlib.Omega.{arith}
use lib.Bits.{and_le_r}
use lib.Count.{count_trailing_zeros}
use Rattle.occurrences.proofs.Turning.{next_low, turning_all, turning_none, turning_less}
use Rattle.occurrences.proofs.turn_row.Goals as goal
use Rattle.occurrences.proofs.turn_row.Goals.{In-loop-left}

-- the number of the literal that a turn takes
low : (c : In-loop-left) → count_trailing_zeros 64 c.loop-left.left < 64
low c = next_low _ c.loop-left.invariant.low c.loop-left-test.true

pub loop-left-init : goal.loop-left-init
loop-left-init c = turning_all _ _ _ (omega arith)

pub overflow_cast-l : goal.overflow_cast-l
overflow_cast-l c = record { fits = omega (arith, low c) }

pub overflow_mul-at : goal.overflow_mul-at
overflow_mul-at c = record { fits = omega (arith, low c) }

pub overflow_add-at : goal.overflow_add-at
overflow_add-at c = record { fits = omega (arith, low c) }

pub offset_bounds-index-at : goal.offset_bounds-index-at
offset_bounds-index-at c = record { fits = omega (arith, low c) }

pub bounds-index-at : goal.bounds-index-at
bounds-index-at c = omega (arith, low (goal.at.bounds-index-at c).In-loop-left)

pub bounds-index-at-in-loop-left : goal.bounds-index-at-in-loop-left
bounds-index-at-in-loop-left c = omega (arith, low (goal.at.bounds-index-at-in-loop-left c).In-loop-left)

pub loop-left-smaller : goal.loop-left-smaller
loop-left-smaller c = let l = c.loop-left.left in omega (arith, and_le_r l (l - 1))

pub loop-left-preserved : goal.loop-left-preserved
loop-left-preserved c =
    let l = c.loop-left in
    turning_less _ _ _ l.left l.index l.invariant c.loop-left-test.true (omega arith)

pub returns : goal.returns
returns c = let l = c.loop-left in turning_none _ _ _ l.left l.index l.invariant c.loop-left-test.false
