-- Tests and counts over 384 rows from six words of 64, and from the list of rows. By induction on the first part, or on the list.
use mathlib.Core.Path.{◌≡◌, refl, sym, ap, ◌∙◌}
use mathlib.Core.Bool.{Bool, true, false, not, ◌||◌, or-false}
use mathlib.Core.List.{List, [], ◌∷◌}
use Prim.Native.Nat.{ℕ, zero, suc, ◌+◌, ◌*◌, ◌≤◌}
use native.Mathlib.Nat.{le_of_suc-le-suc, not-suc-le-zero}
use native.Mathlib.Omega.{arith}
use lib.Dec.{eqb}
use lib.ListN.{length}
use borrow.Author.Tests.{ne_eqb}
use Rattle.words.specs.declared.Row.{Row}
use Rattle.words.specs.Booleans.{digit}
use Rattle.words.specs.Sets.{any, count}
use Rattle.words.proofs.Truth.{on}
use Rattle.words.proofs.Last.{any_last, count-last, any_false}
use Rattle.scan.specs.Rules.{all_rows, any_row}
use Rattle.occurrences.specs.Index.{at}
use Rattle.tally.specs.Tallies.{count_rows}

-- ---- six words

module _ (q : ℕ → Bool) where
  count_add : (a b : ℕ) → count q (a + b) ≡ count q a + count (λ i. q (a + i)) b
  unfolding count
  count_add a zero = let e : a + 0 ≡ a = omega arith in ap (count q) e ∙ omega arith
  count_add a (suc b) =
      let e : a + suc b ≡ suc (a + b) = omega arith in
      ap (count q) e ∙ omega (arith, count_add a b, count-last q (a + b), count-last (λ i. q (a + i)) b)

  any-add : (a b : ℕ) → any q (a + b) ≡ any q a || any (λ i. q (a + i)) b
  unfolding any
  any-add a zero = let e : a + 0 ≡ a = omega arith in ap (any q) e ∙ sym (or-false (any q a))
  any-add a (suc b) =
      let e : a + suc b ≡ suc (a + b) = omega arith in
      ap (any q) e ∙ any_last q (a + b) ∙ ap (λ (x : Bool). x || q (a + b)) (any-add a b) ∙ assoc (any q a) (any (λ i. q (a + i)) b) (q (a + b))
      ∙ ap (λ (x : Bool). any q a || x) (sym (any_last (λ i. q (a + i)) b))
    where
      assoc : (x y z : Bool) → (x || y) || z ≡ x || (y || z)
      assoc true y z = refl
      assoc false y z = refl

  none_below : count q 0 ≡ 0
  unfolding count
  none_below = refl

  -- of 64 places of word w
  abbrev size_at : ℕ → ℕ
  size_at w = count (λ j. q (64 * w + j)) 64

  abbrev some_at : ℕ → Bool
  some_at w = any (λ j. q (64 * w + j)) 64

  pub count-six : size_at 0 + size_at 1 + size_at 2 + size_at 3 + size_at 4 + size_at 5 ≡ count q 384
  count-six = omega (arith, none_below, count_add 0 64, count_add 64 64, count_add 128 64, count_add 192 64, count_add 256 64, count_add 320 64)

  pub any-six : some_at 0 || some_at 1 || some_at 2 || some_at 3 || some_at 4 || some_at 5 ≡ any q 384
  unfolding any
  any-six =
      sym (any-add 320 64
      ∙ ap (λ (x : Bool). x || some_at 5) (any-add 256 64
      ∙ ap (λ (x : Bool). x || some_at 4) (any-add 192 64
      ∙ ap (λ (x : Bool). x || some_at 3) (any-add 128 64
      ∙ ap (λ (x : Bool). x || some_at 2) (any-add 64 64
      ∙ ap (λ (x : Bool). x || some_at 1) (any-add 0 64))))))

-- ---- the list

module _ (p : Row → Bool) where
  pub any_at : (rows : List Row) (m : ℕ) → length rows ≤ m → any (at p rows) m ≡ any_row p rows
  unfolding at any any_row
  any_at [] m h = any_false (λ i. false) m (λ i b. refl)
  any_at (x ∷ xs) zero h = absurd (not-suc-le-zero h)
  any_at (x ∷ xs) (suc m) h = ap (λ (b : Bool). p x || b) (any_at xs m (le_of_suc-le-suc h))

  pub count_at : (rows : List Row) (m : ℕ) → length rows ≤ m → count (at p rows) m ≡ count_rows p rows
  unfolding at count count_rows
  count_at [] m h = zeros m
    where
      zeros : (k : ℕ) → count (λ i. false) k ≡ 0
      zeros zero = refl
      zeros (suc k) = let e = zeros k in omega arith
  count_at (x ∷ xs) zero h = absurd (not-suc-le-zero h)
  count_at (x ∷ xs) (suc m) h = ap (λ (k : ℕ). digit (p x) + k) (count_at xs m (le_of_suc-le-suc h))

  -- none unsatisfied: all satisfied
  pub none_fails : (rows : List Row) → eqb (count_rows (λ r. not (p r)) rows) 0 ≡ all_rows p rows
  unfolding count_rows all_rows
  none_fails [] = refl
  none_fails (x ∷ xs) =
      on (p x)
      (λ e. rw e (ap (λ (k : ℕ). eqb k 0) (plain (count_rows (λ r. not (p r)) xs)) ∙ none_fails xs))
      (λ e. rw e (ne_eqb (1 + count_rows (λ r. not (p r)) xs) 0 (λ z. omega arith)))
    where
      plain : (k : ℕ) → 0 + k ≡ k
      plain k = omega arith
