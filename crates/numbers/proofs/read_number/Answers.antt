-- `read_number` meets its contract: the digits after the sign are held, and the sign is added.
use mathlib.Core.Path.{◌≡◌, sym, ap, ◌∙◌}
use mathlib.Core.Bool.{true}
use mathlib.Core.List.{List}
use Prim.Native.Nat.{ℕ}
use lib.Dec.{eqb}
use lib.ListN.{drop, get_or}
use Rattle.std.specs.Prelude.{Option}
use Rattle.numbers.specs.Numbers.{decimal_of}
use Rattle.numbers.specs.CappedNumbers.{digits_held}
use Rattle.numbers.proofs.Decimals.{has_minus, plain_value, plain-none, minus-none, minus-zero, minus-value}
use Rattle.numbers.proofs.read_number.Goals as goal
use Rattle.numbers.proofs.read_number.Goals.{In-Some}

pub returns-in_err-read_digits : goal.returns-in_err-read_digits
returns-in_err-read_digits c =
    c.from_residual.ensures
    ∙ sym (plain-none c.args.word.now (sym (has_minus c.args.word.now) ∙ c.in_default.ensures.cases) (sym c.in_err-read_digits.ensures))

pub returns-in_default : goal.returns-in_default
returns-in_default c =
    sym (plain_value c.args.word.now (sym (has_minus c.args.word.now) ∙ c.in_default.ensures.cases) _ (sym c.in_ok-read_digits.ensures))

-- a minus comes first, and what is read is the bytes after it
minus : (c : In-Some) → eqb (get_or c.args.word.now 0 0) 45 ≡ true
minus c = sym (has_minus c.args.word.now) ∙ c.in-Some.ensures.cases.0

behind : (c : In-Some) (d : Option ℕ) → d ≡ digits_held (decimal_of c.in-Some.digits.now) → digits_held (decimal_of (drop 1 c.args.word.now)) ≡ d
behind c d e = ap (λ (w : List ℕ). digits_held (decimal_of w)) (sym c.in-Some.ensures.cases.1) ∙ sym e

pub returns-in_err-v : goal.returns-in_err-v
returns-in_err-v c =
    let d = (goal.at.returns-in_err-v c).In-Some in
    c.from_residual-in_err-v.ensures ∙ sym (minus-none c.args.word.now (minus d) (behind d _ c.in_err-v.ensures))

pub returns-then-v-eq0 : goal.returns-then-v-eq0
returns-then-v-eq0 c =
    let d = (goal.at.returns-then-v-eq0 c).In-Some in
    sym (minus-zero c.args.word.now (minus d) _ (behind d _ c.in_ok-v.ensures) c.if-v-eq0.true)

pub returns : goal.returns
returns c =
    let d = (goal.at.returns c).In-Some in
    sym (minus-value c.args.word.now (minus d) _ (behind d _ c.in_ok-v.ensures) c.if-v-eq0.false)
