-- The bits of shifted words.
use mathlib.Core.Path.{◌≡◌, sym, ap, ap₂, ◌∙◌}
use mathlib.Core.Bool.{Bool, true, false, cond}
use Prim.Native.Nat.{ℕ, zero, suc, ◌+◌, ◌-◌, ◌*◌, ◌/◌, ◌%◌, ◌^◌}
use native.Mathlib.Nat.{mul-one, mul_assoc, mul-div_cancel, zero-lt-suc, pow-suc}
use native.Mathlib.Omega.{arith}
use lib.Dec.{eqb, leb}
use lib.Pow.{shr-shr}
use borrow.Author.Tests.{ne_eqb, le-leb, lt-leb, leb-true, leb-false}
use Rattle.words.proofs.Truth.{on}
use Rattle.words.specs.Sets.{bit}
use Rattle.words.proofs.Bits.{bit-suc}

pub bit_shr : (x d c : ℕ) → bit (x / 2 ^ d) c ≡ bit x (d + c)
unfolding bit
bit_shr x d c = ap (λ (y : ℕ). eqb (y % 2) 1) (shr-shr x d c)

double_low : (x : ℕ) → bit (x * 2) 0 ≡ false
unfolding bit
double_low x = ne_eqb (x * 2 / 1 % 2) 1 (λ (e : x * 2 / 1 % 2 ≡ 1). omega arith)

double_next : (x i : ℕ) → bit (x * 2) (suc i) ≡ bit x i
double_next x i = bit-suc (x * 2) i ∙ ap (λ (y : ℕ). bit y i) (mul-div_cancel x (zero-lt-suc 1))

pub bit_shl : (x d c : ℕ) → bit (x * 2 ^ d) c ≡ cond (leb d c) (bit x (c - d)) false
bit_shl x zero c = let e : c ≡ c - 0 = omega arith in ap₂ (λ (w k : ℕ). bit w k) (mul-one x) e
    ∙ sym (ap (λ (b : Bool). cond b (bit x (c - 0)) false) (leb-zero c))
  where
    leb-zero : (c : ℕ) → leb 0 c ≡ true
    leb-zero c = le-leb 0 c (omega arith)
bit_shl x (suc d) zero = ap (λ (w : ℕ). bit w 0) (ap (λ (p : ℕ). x * p) (pow-suc 2 d) ∙ sym (mul_assoc x (2 ^ d) 2)) ∙ double_low (x * 2 ^ d)
    ∙ sym (ap (λ (b : Bool). cond b (bit x (0 - suc d)) false) (lt-leb (suc d) 0 (zero-lt-suc d)))
bit_shl x (suc d) (suc c) =
    let e : c - d ≡ suc c - suc d = omega arith in
    ap (λ (w : ℕ). bit w (suc c)) (ap (λ (p : ℕ). x * p) (pow-suc 2 d) ∙ sym (mul_assoc x (2 ^ d) 2))
    ∙ double_next (x * 2 ^ d) c
    ∙ bit_shl x d c
    ∙ ap₂ (λ (b : Bool) (k : ℕ). cond b (bit x k) false) (sym (leb-suc d c)) e
  where
    leb-suc : (d c : ℕ) → leb (suc d) (suc c) ≡ leb d c
    leb-suc d c = on (leb d c) (λ h. le-leb (suc d) (suc c) (omega (arith, leb-true d c h)) ∙ sym h)
        (λ h. lt-leb (suc d) (suc c) (omega (arith, leb-false d c h)) ∙ sym h)
