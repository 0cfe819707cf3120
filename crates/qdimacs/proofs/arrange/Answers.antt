-- `arrange` meets its contract: the variables below i that are not listed are still to be put in front.
use mathlib.Core.Path.{◌≡◌, refl, sym, ap, ◌∙◌}
use mathlib.Core.Bool.{Bool, true, false, cond}
use Prim.Native.Nat.{ℕ, zero, suc, ◌+◌, ◌-◌, ◌*◌, ◌%◌, ◌^◌, ◌≤◌, ◌<◌}
use native.Mathlib.Numerals.{sub-one}
use native.Mathlib.Omega.{arith}
use Rattle.words.specs.Sets.{bit}
use Rattle.qdimacs.specs.TurnsInWords.{arranged}
use Rattle.qdimacs.proofs.arrange.Goals as goal

one_less : (listed turns i : ℕ) → 0 < i
    → arranged listed turns i ≡ arranged listed (cond (bit listed (i - 1)) turns ((turns * 32) % 2 ^ 64 + 2 * (i - 1))) (i - 1)
unfolding arranged
one_less listed turns zero h = absurd (omega arith)
one_less listed turns (suc k) h = rw (sub-one (suc k))

one-put : (listed turns i : ℕ) → 0 < i → bit listed (i - 1) ≡ false → arranged listed turns i ≡ arranged listed ((turns * 32) % 2 ^ 64 + 2 * (i - 1)) (i - 1)
one-put listed turns i h e = one_less listed turns i h ∙ ap (λ (t : Bool). arranged listed (cond t turns ((turns * 32) % 2 ^ 64 + 2 * (i - 1))) (i - 1)) e

one-passed : (listed turns i : ℕ) → 0 < i → bit listed (i - 1) ≡ true → arranged listed turns i ≡ arranged listed turns (i - 1)
one-passed listed turns i h e = one_less listed turns i h ∙ ap (λ (t : Bool). arranged listed (cond t turns ((turns * 32) % 2 ^ 64 + 2 * (i - 1))) (i - 1)) e

none_left : (listed turns i : ℕ) → i ≤ 0 → arranged listed turns i ≡ turns
unfolding arranged
none_left listed turns zero h = refl
none_left listed turns (suc i) h = absurd (omega arith)

pub loop-i-init : goal.loop-i-init
loop-i-init c = refl

pub loop-i-preserved-then-not-bit : goal.loop-i-preserved-then-not-bit
loop-i-preserved-then-not-bit c =
    sym (one-put _ c.loop-i.turns c.loop-i.i c.loop-i-test.true
    (sym c.bit.ensures ∙ c.if-not-bit.true)) ∙ c.loop-i.invariant

pub loop-i-preserved : goal.loop-i-preserved
loop-i-preserved c =
    sym (one-passed _ c.loop-i.turns c.loop-i.i c.loop-i-test.true
    (sym c.bit.ensures ∙ c.if-not-bit.false)) ∙ c.loop-i.invariant

pub returns : goal.returns
returns c = sym (none_left _ c.loop-i.turns c.loop-i.i c.loop-i-test.false) ∙ c.loop-i.invariant
