-- A tree of one AND gate a node decodes a number: each node goes to its two children by the next digit, the highest first, and the leaf that is set is the
-- number's. By induction on the digits.
use mathlib.Core.Path.{◌≡◌, refl, sym, ap, ◌∙◌}
use mathlib.Core.Bool.{Bool, true, false, ◌&&◌}
use Prim.Native.Nat.{ℕ, zero, suc, ◌+◌, ◌*◌, ◌-◌, ◌/◌, ◌%◌, ◌^◌, ◌≤◌, ◌<◌}
use native.Mathlib.Nat.{pow-suc}
use native.Mathlib.Omega.{arith}
use lib.Dec.{eqb}
use borrow.Author.Tests.{eqb-true, eqb-false, ne_eqb}
use Rattle.words.specs.Booleans.{◌⊕◌, digit}
use Rattle.words.specs.Sets.{word_of}
use Rattle.words.proofs.Truth.{on, taut2, agree, agree_eq}
use Rattle.words.proofs.WordOf.{word_of_cong}
use Rattle.netlist.proofs.Digits.{same-eqb}

-- a node's child where the digit is 1, and where it is 0
abbrev pub child_one : Bool → Bool → Bool
child_one node z = node && z

abbrev pub child_zero : Bool → Bool → Bool
child_zero node z = node ⊕ (node && z)

-- the digits' number is n - 1 - i: where the root is set, so is the leaf at 2^b - n + i, for b digits
abbrev pub at_leaf : (ℕ → Bool) → ℕ → ℕ → ℕ → Bool
at_leaf digits b n i = eqb (2 ^ b - n + i + word_of digits b + 1) (2 ^ b)

module _ (node : ℕ → ℕ → Bool) (act : Bool) (z : ℕ → Bool) (b : ℕ)
    (root : node 0 0 ≡ act)
    (one : (d k : ℕ) → d < b → k < 2 ^ d → node (suc d) (2 * k) ≡ child_one (node d k) (z (b - suc d)))
    (nil : (d k : ℕ) → d < b → k < 2 ^ d → node (suc d) (2 * k + 1) ≡ child_zero (node d k) (z (b - suc d))) where
  -- the number of the d highest digits
  high : ℕ → ℕ
  high d = word_of (λ i. z (b - d + i)) d

  high-suc : (d : ℕ) → d < b → high (suc d) ≡ digit (z (b - suc d)) + 2 * high d
  unfolding word_of high
  high-suc d h =
      let e : b - suc d + 0 ≡ b - suc d = omega arith in
      ap (λ (x : ℕ). digit (z x) + 2 * word_of (λ i. z (b - suc d + suc i)) d) e
      ∙ ap (λ (x : ℕ). digit (z (b - suc d)) + 2 * x)
      (word_of_cong (λ i. z (b - suc d + suc i)) (λ i. z (b - d + i)) d (λ i l. let q : b - suc d + suc i ≡ b - d + i = omega arith in ap z q))

  -- a child, by the digit
  even : (d k : ℕ) → d < b → k < 2 ^ d → node d k ≡ act && eqb (k + high d + 1) (2 ^ d)
      → node (suc d) (2 * k) ≡ act && eqb (2 * k + high (suc d) + 1) (2 ^ suc d)
  even d k h l e =
      one d k h l ∙ ap (λ (x : Bool). x && z (b - suc d)) e
      ∙ on (z (b - suc d))
      (λ q. let s : high (suc d) ≡ 1 + 2 * high d = rw q at (high-suc d h) in
      rw q (agree_eq (taut2 (λ a x. agree ((a && x) && true) (a && x)) refl act (eqb (k + high d + 1) (2 ^ d)))
      ∙ ap (λ (x : Bool). act && x)
      (same-eqb (k + high d + 1) (2 ^ d) (2 * k + high (suc d) + 1) (2 ^ suc d) (λ r. omega (arith, s, pow-suc 2 d)) (λ r. omega (arith, s, pow-suc 2 d)))))
      (λ q. let s : high (suc d) ≡ 0 + 2 * high d = rw q at (high-suc d h) in
      rw q (agree_eq (taut2 (λ a x. agree ((a && x) && false) (a && false)) refl act (eqb (k + high d + 1) (2 ^ d)))
      ∙ ap (λ (x : Bool). act && x) (sym (ne_eqb (2 * k + high (suc d) + 1) (2 ^ suc d) (λ r. omega (arith, s, pow-suc 2 d))))))

  odd : (d k : ℕ) → d < b → k < 2 ^ d → node d k ≡ act && eqb (k + high d + 1) (2 ^ d)
      → node (suc d) (2 * k + 1) ≡ act && eqb (2 * k + 1 + high (suc d) + 1) (2 ^ suc d)
  odd d k h l e =
      nil d k h l ∙ ap (λ (x : Bool). x ⊕ (x && z (b - suc d))) e
      ∙ on (z (b - suc d))
      (λ q. let s : high (suc d) ≡ 1 + 2 * high d = rw q at (high-suc d h) in
      rw q (agree_eq (taut2 (λ a x. agree ((a && x) ⊕ ((a && x) && true)) (a && false)) refl act (eqb (k + high d + 1) (2 ^ d)))
      ∙ ap (λ (x : Bool). act && x) (sym (ne_eqb (2 * k + 1 + high (suc d) + 1) (2 ^ suc d) (λ r. omega (arith, s, pow-suc 2 d))))))
      (λ q. let s : high (suc d) ≡ 0 + 2 * high d = rw q at (high-suc d h) in
      rw q (agree_eq (taut2 (λ a x. agree ((a && x) ⊕ ((a && x) && false)) (a && x)) refl act (eqb (k + high d + 1) (2 ^ d)))
      ∙ ap (λ (x : Bool). act && x)
      (same-eqb (k + high d + 1) (2 ^ d) (2 * k + 1 + high (suc d) + 1) (2 ^ suc d) (λ r. omega (arith, s, pow-suc 2 d)) (λ r. omega (arith, s, pow-suc 2 d)))))

  level : (d k : ℕ) → d ≤ b → k < 2 ^ d → node d k ≡ act && eqb (k + high d + 1) (2 ^ d)
  unfolding word_of high
  level zero k h l =
      let e : k ≡ 0 = omega arith in
      rw e (root ∙ agree_eq (taut2 (λ a x. agree a (a && true)) refl act act))
  level (suc d) k h l =
      let half : k / 2 < 2 ^ d = omega (arith, pow-suc 2 d) in
      let up = level d (k / 2) (omega arith) half in
      on (eqb (k % 2) 0)
      (λ e. let q : k ≡ 2 * (k / 2) = omega (arith, eqb-true (k % 2) 0 e) in
      ap (λ (x : ℕ). node (suc d) x) q ∙ even d (k / 2) h half up ∙ ap (λ (x : ℕ). act && eqb (x + high (suc d) + 1) (2 ^ suc d)) (sym q))
      (λ e. let q : k ≡ 2 * (k / 2) + 1 = odd_half k (eqb-false (k % 2) 0 e) in
      ap (λ (x : ℕ). node (suc d) x) q ∙ odd d (k / 2) h half up ∙ ap (λ (x : ℕ). act && eqb (x + high (suc d) + 1) (2 ^ suc d)) (sym q))
    where
      odd_half : (k : ℕ) → (k % 2 ≡ 0 → ⊥) → k ≡ 2 * (k / 2) + 1
      odd_half k h = omega arith

  -- the leaf of variable i of n
  pub decoded : (n : ℕ) → n ≤ 2 ^ b → (i : ℕ) → i < n → node b (2 ^ b - n + i) ≡ act && at_leaf z b n i
  unfolding high
  decoded n room i h =
      let whole : high b ≡ word_of z b = word_of_cong (λ i. z (b - b + i)) z b (λ i l. let q : b - b + i ≡ i = omega arith in ap z q) in
      level b (2 ^ b - n + i) (omega arith) (omega arith) ∙ ap (λ (x : ℕ). act && eqb (2 ^ b - n + i + x + 1) (2 ^ b)) whole

-- the number is n - 1 - v
pub picked-is : (z : ℕ → Bool) (b n v : ℕ) → n ≤ 2 ^ b → v + word_of z b + 1 ≡ n → (i : ℕ) → i < n → at_leaf z b n i ≡ eqb i v
picked-is z b n v room e i h = same-eqb (2 ^ b - n + i + word_of z b + 1) (2 ^ b) i v (λ r. omega arith) (λ r. omega arith)
