-- `read_digits` meets its contract: the digits left, after the value so far, give what the token gives.
use mathlib.Core.Path.{sym, ap, ◌∙◌}
use native.Mathlib.Omega.{arith}
use Rattle.numbers.specs.CappedNumbers.{digits_held}
use Rattle.numbers.proofs.Decimals.{empty, leading, plain, no_digit, one-digit, digit_low, no_more}
use borrow.Author.Rules.{rules}
use Rattle.numbers.proofs.read_digits.Goals as goal
use Rattle.numbers.proofs.read_digits.Goals.{then-is_empty-via-then-is_empty, then-is_empty-via-else-is_empty+then-leading_zero}

pub returns-then-is_empty : goal.returns-then-is_empty
returns-then-is_empty c =
    elim c.then-is_empty.branch [
      | then-is_empty-via-then-is_empty w ↦ sym (ap digits_held (empty _ (search rules)))
      | then-is_empty-via-else-is_empty+then-leading_zero w ↦
          sym (ap digits_held (leading _ (sym w.leading_zero.ensures ∙ w.if-leading_zero.true)))
    ]

pub loop-b-init : goal.loop-b-init
loop-b-init c = (omega arith, ap digits_held (sym (plain _ (search rules) (sym c.leading_zero.ensures ∙ c.if-leading_zero.false))))

pub returns-then-not-is_digit : goal.returns-then-not-is_digit
returns-then-not-is_digit c = sym (no_digit _ _ _ c.loop-b-test.true (sym c.is_digit.ensures ∙ c.if-not-is_digit.true))
    ∙ c.loop-b.invariant.1

pub with_digit-v-requires : goal.with_digit-v-requires
with_digit-v-requires c =
    record { v_bound = c.loop-b.invariant.0; le_b = digit_low _ (sym c.is_digit.ensures ∙ c.if-not-is_digit.false) }

pub loop-b-preserved : goal.loop-b-preserved
loop-b-preserved c = (
  omega (arith, c.with_digit-v.ensures),
  rw c.with_digit-v.ensures
      (sym (one-digit _ _ _ c.loop-b-test.true (sym c.is_digit.ensures
      ∙ c.if-not-is_digit.false))
      ∙ c.loop-b.invariant.1),
)

pub returns : goal.returns
returns c = sym (no_more _ _ _ c.loop-b.invariant.0 c.loop-b-test.false) ∙ c.loop-b.invariant.1
