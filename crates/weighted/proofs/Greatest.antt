-- Laws of `greatest` and `heaviest`. Each by induction on n.
use mathlib.Core.Path.{◌≡◌, refl, sym}
use mathlib.Core.Bool.{Bool, true, false}
use mathlib.Core.Logic.{inl, inr}
use Prim.Native.Nat.{ℕ, zero, suc, ◌+◌, ◌≤◌, ◌<◌}
use native.Mathlib.Nat.{not-suc-le-zero, zero-lt-suc, eq-or-lt_of_le, le_of_suc-le-suc}
use native.Mathlib.Numerals.{add-one}
use native.Mathlib.Omega.{arith}
use lib.Dec.{ltb}
use borrow.Author.Tests.{ltb-true, ltb-false}
use Rattle.words.proofs.Truth.{on}
use Rattle.weighted.specs.Weights.{greatest, heaviest}

module _ (under : ℕ → ℕ → Bool) where
  pub greatest-next : (n : ℕ) → under (greatest under n) n ≡ true → greatest under (n + 1) ≡ n
  unfolding greatest
  greatest-next n e = rw (add-one, e)

  pub greatest_stays : (n : ℕ) → under (greatest under n) n ≡ false → greatest under (n + 1) ≡ greatest under n
  unfolding greatest
  greatest_stays n e = rw (add-one, e)

  pub greatest-lt : (n : ℕ) → greatest under (suc n) < suc n
  unfolding greatest
  greatest-lt zero = on (under zero zero) (λ e. rw e (zero-lt-suc 0)) (λ e. rw e (zero-lt-suc 0))
  greatest-lt (suc n) = on (under (greatest under (suc n)) (suc n)) (λ e. rw e (omega arith)) (λ e. rw e (omega (arith, greatest-lt n)))

-- tests that agree below n have one greatest
pub greatest_cong : (p q : ℕ → ℕ → Bool) (n : ℕ) → ((i j : ℕ) → i < n → j < n → p i j ≡ q i j) → greatest p n ≡ greatest q n
unfolding greatest
greatest_cong p q zero h = refl
greatest_cong p q (suc zero) h = rw (h zero zero (zero-lt-suc 0) (zero-lt-suc 0))
greatest_cong p q (suc (suc n)) h =
    let e = greatest_cong p q (suc n) (λ i j a b. h i j (omega arith) (omega arith)) in
    let b = greatest-lt p n in
    rw (sym e, h (greatest p (suc n)) (suc n) (omega arith) (omega arith))

module _ (w : ℕ → ℕ) where
  abbrev under : ℕ → ℕ → Bool
  under i j = ltb (w i) (w j)

  -- no weight is greater
  pub heaviest-most : (n i : ℕ) → i < n → w i ≤ w (heaviest w n)
  unfolding heaviest greatest
  heaviest-most zero i h = absurd (not-suc-le-zero h)
  heaviest-most (suc n) i h =
      on (under (greatest under n) n)
      (λ e. rw e (elim (eq-or-lt_of_le (le_of_suc-le-suc h)) [
        | inl q ↦ rw q (omega arith)
        | inr l ↦ omega (arith, heaviest-most n i l, ltb-true (w (greatest under n)) (w n) e)
      ]))
      (λ e. rw e (elim (eq-or-lt_of_le (le_of_suc-le-suc h)) [
        | inl q ↦ rw q (ltb-false (w (greatest under n)) (w n) e)
        | inr l ↦ heaviest-most n i l
      ]))

  -- and each lower variable's is less
  pub heaviest-lowest : (n i : ℕ) → i < heaviest w n → w i < w (heaviest w n)
  unfolding heaviest greatest
  heaviest-lowest zero i h = absurd (not-suc-le-zero h)
  heaviest-lowest (suc n) i h =
      on (under (greatest under n) n)
      (λ e. rw e (let l : i < n = rw e at h in omega (arith, heaviest-most n i l, ltb-true (w (greatest under n)) (w n) e)))
      (λ e. rw e (heaviest-lowest n i (rw e at h)))

  pub heaviest-lt : (n : ℕ) → heaviest w (suc n) < suc n
  unfolding heaviest
  heaviest-lt n = greatest-lt under n
