-- Counting up to two in two sets: for each variable x in turn, `two = two | (one & x)` and `one = one | x`. In the end `!two` are the rows with at most one.
use mathlib.Core.Path.{◌≡◌, sym, ap, ◌∙◌}
use mathlib.Core.Bool.{Bool, true, false, not, ◌&&◌, ◌||◌, and-false}
use Prim.Native.Nat.{ℕ, suc, ◌+◌, ◌<◌}
use native.Mathlib.Omega.{arith}
use lib.Dec.{eqb, leb}
use borrow.Author.Tests.{leb-true, leb-false, le-leb, lt-leb, eq-eqb, ne_eqb}
use Rattle.words.specs.Booleans.{digit}
use Rattle.words.specs.Sets.{any, count}
use Rattle.words.proofs.Truth.{on}
use Rattle.words.proofs.Upto.{any-i, count-some, count_none}
use Rattle.words.proofs.Last.{any_false, count-last}

module _ (b : ℕ → Bool) where
  -- some passes if at least one does
  some-count : (k : ℕ) → any b k ≡ leb 1 (count b k)
  some-count k =
      on (leb 1 (count b k))
      (λ e. let x = count-some b k (leb-true 1 (count b k) e) in any-i b k x.0 x.1 x.2 ∙ sym e)
      (λ e. let z : count b k ≡ 0 = none (count b k) (leb-false 1 (count b k) e) in any_false b k (λ i c. count_none b k z i c) ∙ sym e)
    where
      none : (c : ℕ) → c < 1 → c ≡ 0
      none c h = omega arith

  -- at least two of one more
  pub two-more : (k : ℕ) → leb 2 (count b (suc k)) ≡ leb 2 (count b k) || (any b k && b k)
  two-more k =
      ap (leb 2) (count-last b k) ∙ by (b k) (count b k)
      ∙ ap (λ (x : Bool). leb 2 (count b k) || (x && b k)) (sym (some-count k))
    where
      by : (x : Bool) (c : ℕ) → leb 2 (digit x + c) ≡ leb 2 c || (leb 1 c && x)
      by true c =
          on (leb 2 c)
          (λ e. rw e (le-leb 2 (1 + c) (omega (arith, leb-true 2 c e))))
          (λ e. rw e (on (leb 1 c)
          (λ h. rw h (le-leb 2 (1 + c) (omega (arith, leb-true 1 c h))))
          (λ h. rw h (lt-leb 2 (1 + c) (omega (arith, leb-false 1 c h))))))
      by false c =
          on (leb 2 c)
          (λ e. rw e (le-leb 2 (0 + c) (omega (arith, leb-true 2 c e))))
          (λ e. rw e (lt-leb 2 (0 + c) (omega (arith, leb-false 2 c e)) ∙ sym (and-false (leb 1 c))))

  -- none
  pub exactly_none : (k : ℕ) → not (any b k) ≡ eqb (count b k) 0
  exactly_none k = ap not (some-count k) ∙ by (count b k)
    where
      by : (c : ℕ) → not (leb 1 c) ≡ eqb c 0
      by c =
          on (leb 1 c)
          (λ e. rw e (sym (ne_eqb c 0 (λ z. omega (arith, leb-true 1 c e)))))
          (λ e. rw e (sym (eq-eqb c 0 (omega (arith, leb-false 1 c e)))))
