-- The lowest variable as a number with no AND gate: the digits of n - 1 - v are parities of the wires that say whether some variable below a threshold passes,
-- the thresholds a power of two apart. Such a wire says that v is below the threshold; how many say so is a quotient, and its parity a digit. By induction on
-- the thresholds.
use mathlib.Core.Path.{◌≡◌, refl, sym, ap, ◌∙◌}
use mathlib.Core.Bool.{Bool, true, false, not}
use Prim.Native.Nat.{ℕ, zero, suc, ◌+◌, ◌*◌, ◌-◌, ◌/◌, ◌%◌, ◌^◌, ◌≤◌, ◌<◌, zero-le, suc-le-suc}
use native.Mathlib.Nat.{le_of_suc-le-suc, not-suc-le-zero, zero-lt-suc, le_refl, le-div_iff_mul-le}
use native.Mathlib.Omega.{arith}
use lib.Dec.{eqb, ltb}
use lib.Pow.{pow_pos, shr_mono}
use borrow.Author.Tests.{ltb-true, ltb-false, lt-ltb, le-ltb}
use Rattle.words.specs.Booleans.{◌⊕◌}
use Rattle.words.specs.Sets.{bit, any, lowest}
use Rattle.words.proofs.Truth.{on, taut1, agree, agree_eq}
use Rattle.netlist.proofs.Chains.{xor_false}
use Rattle.netlist.proofs.Digits.{same-ltb}

-- some number below k passes exactly if the lowest is below k
pub any_below : (x : ℕ → Bool) (n k : ℕ) → k ≤ n → any x k ≡ ltb (lowest x n) k
unfolding any lowest
any_below x n zero h = sym (le-ltb (lowest x n) 0 zero-le)
any_below x zero (suc k) h = absurd (not-suc-le-zero h)
any_below x (suc n) (suc k) h =
    on (x zero)
    (λ e. rw (e, lowest) (sym (lt-ltb 0 (suc k) (zero-lt-suc k))))
    (λ e. rw (e, lowest) (any_below (λ i. x (suc i)) n k (le_of_suc-le-suc h)
    ∙ same-ltb (lowest (λ i. x (suc i)) n) k (suc (lowest (λ i. x (suc i)) n)) (suc k) suc-le-suc le_of_suc_le_suc'))
  where
    le_of_suc_le_suc' : {a b : ℕ} → a ≤ b → suc a ≤ suc b
    le_of_suc_le_suc' l = suc-le-suc l

-- ---- parity

abbrev pub odd_of : ℕ → Bool
odd_of zero = false
odd_of (suc c) = not (odd_of c)

odd-digit : (c : ℕ) → odd_of c ≡ eqb (c % 2) 1
odd-digit zero = refl
odd-digit (suc zero) = refl
odd-digit (suc (suc c)) =
    let e : suc (suc c) % 2 ≡ c % 2 = omega arith in
    agree_eq (taut1 (λ a. agree (not (not a)) a) refl (odd_of c)) ∙ odd-digit c ∙ ap (λ (x : ℕ). eqb x 1) (sym e)

-- ---- one digit

-- from n wires: variable v = n - 1 - u, the digit of weight p; thresholds n - p * d for d from k down to 1
module _ (n v u p k : ℕ) (below : v + u + 1 ≡ n) (positive : 0 < p) (few : u / p ≤ k)
    (some c : ℕ → Bool) (some_is : (i : ℕ) → i ≤ n → some i ≡ ltb v i)
    (start : c 0 ≡ false) (next : (i : ℕ) → i < k → c (suc i) ≡ c i ⊕ some (n - p * (k - i))) where
  -- whether a threshold counts
  passes : (i : ℕ) → i < k → some (n - p * (k - i)) ≡ ltb (k - u / p) (suc i)
  passes i h =
      some_is (n - p * (k - i)) (omega arith)
      ∙ same-ltb v (n - p * (k - i)) (k - u / p) (suc i)
      (λ l. let q : (k - i) * p ≤ u = commuted (omega arith) in
      let r : k - i ≤ u / p = (le-div_iff_mul-le positive).1 q in omega arith)
      (λ l. on (ltb (k - i) (suc (u / p)))
      (λ e. let q : (k - i) * p ≤ u = (le-div_iff_mul-le positive).0 (le_of_suc-le-suc (ltb-true (k - i) (suc (u / p)) e)) in
      absurd (omega (arith, back q)))
      (λ e. omega (arith, ltb-false (k - i) (suc (u / p)) e)))
    where
      commuted : p * (k - i) ≤ u → (k - i) * p ≤ u
      commuted l = omega arith

      back : (k - i) * p ≤ u → p * (k - i) ≤ u
      back l = omega arith

  counted : (i : ℕ) → i ≤ k → c i ≡ odd_of (i - (k - u / p))
  counted zero h = start ∙ ap odd_of (none (k - u / p))
    where
      none : (a : ℕ) → 0 ≡ 0 - a
      none a = omega arith
  counted (suc i) h =
      next i h ∙ ap (λ (x : Bool). x ⊕ some (n - p * (k - i))) (counted i (omega arith)) ∙ ap (λ (x : Bool). odd_of (i - (k - u / p)) ⊕ x) (passes i h)
      ∙ on (ltb (k - u / p) (suc i))
      (λ e. let q : suc i - (k - u / p) ≡ suc (i - (k - u / p)) = omega (arith, ltb-true (k - u / p) (suc i) e) in
      rw (e, q) (agree_eq (taut1 (λ a. agree (a ⊕ true) (not a)) refl (odd_of (i - (k - u / p))))))
      (λ e. let q : suc i - (k - u / p) ≡ i - (k - u / p) = omega (arith, ltb-false (k - u / p) (suc i) e) in
      rw (e, q) (xor_false (odd_of (i - (k - u / p)))))

  digit-is : c k ≡ eqb (u / p % 2) 1
  digit-is =
      let e : k - (k - u / p) ≡ u / p = omega arith in
      counted k (le_refl k) ∙ ap odd_of e ∙ odd-digit (u / p)

-- ---- all digits

-- the digit of weight 2 to the power d, over the wires `some`, of n variables
module _ (n v u : ℕ) (below : v + u + 1 ≡ n) (some : ℕ → Bool) (some_is : (i : ℕ) → i ≤ n → some i ≡ ltb v i) where
  pub index-digit : (d : ℕ) (c : ℕ → Bool) → c 0 ≡ false
      → ((i : ℕ) → i < (n - 1) / 2 ^ d → c (suc i) ≡ c i ⊕ some (n - 2 ^ d * ((n - 1) / 2 ^ d - i)))
      → c ((n - 1) / 2 ^ d) ≡ bit u d
  unfolding bit
  index-digit d c start next =
      digit-is n v u (2 ^ d) ((n - 1) / 2 ^ d) below (pow_pos d) (shr_mono d (omega arith)) some c some_is start next
