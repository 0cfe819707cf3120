-- `weigh_word` meets its contract: the weights held and what the rows left add are what the whole set adds. The measure is what is left.
use mathlib.Core.Path.{sym}
use Prim.Native.Nat.{ℕ, ◌+◌, ◌-◌, ◌<◌}
use native.Mathlib.Omega.{arith}
use lib.Bits.{and_le_r}
use lib.Count.{count_trailing_zeros}
use Rattle.words.proofs.Operations.{lowest_trailing, and-lt-left}
use Rattle.tally.proofs.Looking.{row_low}
use Rattle.weighted.proofs.Weighing.{weighing-start, weighing-next, weighing_end}
use Rattle.weighted.proofs.SetWeights.{word_none, word_first, few_ones, raised-row}
use Rattle.weighted.proofs.tallied.weigh_word.Goals as goal
use Rattle.weighted.proofs.tallied.weigh_word.Goals.{After-held-in-loop-left-1, In-loop-left}

-- the row of this turn is one of the word's 64
row : (c : In-loop-left) → count_trailing_zeros 64 c.loop-left.left < 64
row c =
    let l = c.loop-left in
    row_low l.left l.invariant.0 c.loop-left-test.true _ (sym (lowest_trailing 64 l.left l.invariant.0))

abbrev place : After-held-in-loop-left-1 → ℕ
place c = c.args.first + count_trailing_zeros 64 c.loop-left.left

pub loop-left-init : goal.loop-left-init
loop-left-init c = (omega arith, weighing-start _ _)

pub overflow_cast-at : goal.overflow_cast-at
overflow_cast-at c = record { fits = omega (arith, row c) }

pub overflow_add-at : goal.overflow_add-at
overflow_add-at c = record { fits = omega (arith, row c) }

pub overflow_mul-at : goal.overflow_mul-at
overflow_mul-at c = record { fits = omega (arith, row c) }

pub offset_bounds-words-at : goal.offset_bounds-words-at
offset_bounds-words-at c = record { fits = omega (arith, row c) }

pub bounds-words-at : goal.bounds-words-at
bounds-words-at c = omega (arith, row (goal.at.bounds-words-at c).In-loop-left)

pub overflow_add-held : goal.overflow_add-held
overflow_add-held c = record { fits = omega (arith, row (goal.at.overflow_add-held c).In-loop-left) }

pub offset_bounds-words-at-in-loop-left : goal.offset_bounds-words-at-in-loop-left
offset_bounds-words-at-in-loop-left c = record { fits = omega (arith, row (goal.at.offset_bounds-words-at-in-loop-left c).In-loop-left) }

pub bounds-words-at-in-loop-left : goal.bounds-words-at-in-loop-left
bounds-words-at-in-loop-left c = omega (arith, row (goal.at.bounds-words-at-in-loop-left c).In-loop-left)

pub overflow_cast-variables : goal.overflow_cast-variables
overflow_cast-variables c = let a = c.args in record {
  fits = omega
      (arith, few_ones a.words.now a.unset (place (goal.at.overflow_cast-variables c).After-held-in-loop-left-1) (omega arith));
}

pub power-requires : goal.power-requires
power-requires c = let a = c.args in few_ones a.words.now a.unset (place (goal.at.power-requires c).After-held-in-loop-left-1) (omega arith)

pub loop-left-smaller : goal.loop-left-smaller
loop-left-smaller c =
    let l = c.loop-left in
    omega (arith, c.loop-left-test.true, and_le_r l.left (l.left - 1))

pub loop-left-preserved : goal.loop-left-preserved
loop-left-preserved c =
    let a = c.args in
    let l = c.loop-left in (
      and-lt-left 64 l.left _ l.invariant.0,
      weighing-next _ _ _ _ l.invariant.1 _ _
          (word_first a.words.now a.first a.unset l.left l.invariant.0 c.loop-left-test.true _
          (sym (lowest_trailing 64 l.left l.invariant.0)))
          _ (raised-row a.words.now a.unset (place (goal.at.loop-left-preserved c).After-held-in-loop-left-1) (omega arith) l.weights _ _ c.power.ensures
          c.raise.ensures),
    )

pub returns : goal.returns
returns c = let l = c.loop-left in weighing_end _ _ _ _ l.invariant.1 (word_none _ _ _ l.left c.loop-left-test.false)
