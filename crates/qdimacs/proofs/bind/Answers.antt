-- `bind` meets its contract: its two tests are the definition's, and what passes them leaves room for a digit.
use mathlib.Core.Path.{◌≡◌, sym, ap, ◌∙◌}
use mathlib.Core.Bool.{Bool, false, ◌||◌}
use Prim.Native.Nat.{◌-◌}
use native.Mathlib.Omega.{arith}
use Rattle.words.specs.Sets.{bit}
use Rattle.qdimacs.specs.TurnsInWords.{is_full}
use Rattle.qdimacs.proofs.Bindings.{beyond_spoils, again_spoils, some-value, made-small, made_fits, unit_fits, made-is}
use Rattle.qdimacs.proofs.bind.Goals as goal
use Rattle.qdimacs.proofs.bind.Goals.{Else-bit-p}

-- the second test is the definition's
new : (c : Else-bit-p) → let a = c.args in bit a.p.listed (a.v - 1) || is_full a.p ≡ false
new c =
    let a = c.args in
    sym (ap (λ (t : Bool). t || is_full a.p) c.bit.ensures) ∙ c.if-bit-p.false

pub returns-then-p-minus : goal.returns-then-p-minus
returns-then-p-minus c =
    let a = c.args in
    c.spoilt.ensures ∙ sym (beyond_spoils a.n a.p a.universal a.minus a.v c.if-p-minus.true)

pub overflow_sub-i : goal.overflow_sub-i
overflow_sub-i c = let a = c.args in (some-value a.n a.p a.universal a.minus a.v c.ranges.n.fits c.if-p-minus.false).0

pub returns-then-bit-p : goal.returns-then-bit-p
returns-then-bit-p c =
    let a = c.args in
    c.spoilt-then-bit-p.ensures
    ∙ sym (again_spoils a.n a.p a.universal a.minus a.v c.if-p-minus.false
    (sym (ap (λ (t : Bool). t || is_full a.p) c.bit.ensures) ∙ c.if-bit-p.true))

pub overflow_add-digit : goal.overflow_add-digit
overflow_add-digit c =
    let a = c.args in
    omega (arith, made-small a.n a.p a.universal a.minus a.v c.ranges.n.fits c.if-p-minus.false)

pub overflow_mul-result : goal.overflow_mul-result
overflow_mul-result c =
    let a = c.args in
    record { fits = (made_fits a.n a.p a.universal a.minus a.v c.ranges.n.fits c.if-p-minus.false (new (goal.at.overflow_mul-result c).Else-bit-p)).0 }

pub overflow_add-result : goal.overflow_add-result
overflow_add-result c =
    let a = c.args in
    record { fits = (made_fits a.n a.p a.universal a.minus a.v c.ranges.n.fits c.if-p-minus.false (new (goal.at.overflow_add-result c).Else-bit-p)).1 }

pub overflow_mul-result-2 : goal.overflow_mul-result-2
overflow_mul-result-2 c =
    let a = c.args in
    record { fits = unit_fits a.n a.p a.universal a.minus a.v c.ranges.n.fits c.if-p-minus.false (new (goal.at.overflow_mul-result-2 c).Else-bit-p) }

pub returns : goal.returns
returns c =
    let a = c.args in
    made-is a.n a.p a.universal a.minus a.v c.ranges.n.fits c.if-p-minus.false (new (goal.at.returns c).Else-bit-p) c.put.result c.put.ensures
