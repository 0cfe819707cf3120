-- `field` meets its contract. The invariant: the value so far and the digits that are left give what all digits give.
use mathlib.Core.Path.{◌≡◌, sym, ◌∙◌}
use mathlib.Core.Bool.{true}
use Prim.Native.Nat.{◌+◌, ◌-◌, ◌*◌}
use native.Mathlib.Omega.{arith}
use lib.ListN.{get_or}
use Rattle.numbers.specs.Numbers.{is_digit}
use Rattle.lines.proofs.Fields.{starts, ends, goes_on, too_great, runs-out}
use Rattle.lines.proofs.field.Goals as goal
use Rattle.lines.proofs.field.Goals.{Else-not-is_digit}

-- the byte is a digit
digit : (c : Else-not-is_digit) → is_digit (get_or c.args.line.now c.loop-i.i 0) ≡ true
digit c = sym c.is_digit.ensures ∙ c.if-not-is_digit.false

pub loop-i-init : goal.loop-i-init
loop-i-init c = let start = c.args in (omega arith, starts start.line.now start.at start.closing)

pub field_end-requires : goal.field_end-requires
field_end-requires c = omega arith

pub returns-then-not-is_digit : goal.returns-then-not-is_digit
returns-then-not-is_digit c =
    let start = c.args in
    c.field_end.ensures
    ∙ ends start.line.now start.at start.closing c.loop-i.i c.loop-i.value (omega arith) c.loop-i.invariant.1
    (sym c.is_digit.ensures ∙ c.if-not-is_digit.true) c.loop-i.invariant.0

pub returns-in_err-checked_mul : goal.returns-in_err-checked_mul
returns-in_err-checked_mul c =
    let start = c.args in
    c.from_residual.ensures
    ∙ too_great start.line.now start.at start.closing c.loop-i.i c.loop-i.value (omega arith) c.loop-i.invariant.1
    (digit (goal.at.returns-in_err-checked_mul c).Else-not-is_digit) c.loop-i.auto.i (let h = c.in_err-checked_mul.ensures in omega arith)

pub returns-in_err-value : goal.returns-in_err-value
returns-in_err-value c =
    let start = c.args in
    c.from_residual-in_err-value.ensures
    ∙ too_great start.line.now start.at start.closing c.loop-i.i c.loop-i.value (omega arith) c.loop-i.invariant.1
    (digit (goal.at.returns-in_err-value c).Else-not-is_digit) c.loop-i.auto.i
    (let h = c.in_ok-checked_mul.ensures in let k = c.in_err-value.ensures in omega arith)

pub loop-i-preserved : goal.loop-i-preserved
loop-i-preserved c =
    let start = c.args in
    let sum : c.in_ok-value.value ≡ c.loop-i.value * 10 + (get_or start.line.now c.loop-i.i 0 - 48)
    = let h = c.in_ok-checked_mul.ensures in let k = c.in_ok-value.ensures in omega arith in (
      omega arith,
      rw sum
          (goes_on start.line.now start.at start.closing c.loop-i.i c.loop-i.value (omega arith) c.loop-i.invariant.1
          (digit (goal.at.loop-i-preserved c).Else-not-is_digit) c.loop-i.auto.i),
    )

pub returns : goal.returns
returns c =
    let start = c.args in
    runs-out start.line.now start.at start.closing c.loop-i.i c.loop-i.value (omega arith) c.loop-i.invariant.1
