-- The search for the lowest row, table by table. What is found, or else the rows left, give what all the rows give.
use mathlib.Core.Path.{◌≡◌, refl, sym, ap, ◌∙◌}
use mathlib.Core.Bool.{Bool, true, false, cond}
use mathlib.Core.List.{List, [], ◌∷◌, ◌++◌, map}
use Prim.Native.Nat.{ℕ, zero, suc, ◌+◌, ◌/◌, ◌≤◌, ◌<◌}
use native.Mathlib.Omega.{arith}
use lib.ListN.{length, get_or}
use Rattle.std.specs.Simd.{first_chunks}
use Rattle.scan.specs.Rules.{rows_of_words}
use borrow.Author.Tests.{ne_eqb}
use Rattle.words.specs.declared.Row.{Row}
use Rattle.words.proofs.Truth.{on}
use Rattle.tables.proofs.Pairs.{row, pairs_rows}
use Rattle.explained.specs.Explanation.{lowest_from, lowest_row}
use Rattle.explained.specs.Search.{found_or}

-- ---- what was found

pub found_first : (found other : ℕ) → 1 ≤ found → found_or found other ≡ found
found_first found other h = rw (ne_eqb found 0 (λ e. omega (arith, e)))

found_nothing : (found : ℕ) → found_or found 0 ≡ found
found_nothing zero = refl
found_nothing (suc k) = found_first (suc k) 0 (omega arith)

found_assoc : (a b c : ℕ) → found_or (found_or a b) c ≡ found_or a (found_or b c)
found_assoc zero b c = refl
found_assoc (suc a) b c = rw (found_first (suc a) b (omega arith), found_first (suc a) (found_or b c) (omega arith)) (found_first (suc a) c (omega arith))

-- ---- pairs of words

-- the pairs of a table's words are its rows
pub pairs_all : (w : List ℕ) → map row (first_chunks 2 (length w / 2) w) ≡ rows_of_words w
pairs_all w = pairs_rows w w (length w / 2) 0 (λ a b l e. ap (λ (n : ℕ). get_or w n 0) (omega arith))

module _ (p : Row → Bool) where
  -- ---- rows after others

  from_append : (xs ys : List Row) (i : ℕ) → 1 ≤ i → lowest_from i p (xs ++ ys) ≡ found_or (lowest_from i p xs) (lowest_from (i + length xs) p ys)
  unfolding lowest_from
  from_append [] ys i h = let e : i ≡ i + 0 = omega arith in ap (λ (k : ℕ). lowest_from k p ys) e
  from_append (r ∷ rs) ys i h =
      on (p r)
      (λ q. rw (q, lowest_from) (sym (found_first i _ h)))
      (λ q. rw (q, lowest_from)
      (let e : suc i + length rs ≡ i + suc (length rs) = omega arith in
      from_append rs ys (suc i) (omega arith) ∙ ap (λ (k : ℕ). found_or (lowest_from (suc i) p rs) (lowest_from k p ys)) e))

  -- three tables, one searched after the other
  pub three-tables : (xs ys zs : List Row) (i j a b c : ℕ) → i ≡ 1 + length xs → j ≡ i + length ys
      → a ≡ found_or 0 (lowest_from 1 p xs) → b ≡ found_or a (lowest_from i p ys) → c ≡ found_or b (lowest_from j p zs)
      → c ≡ lowest_row p (xs ++ (ys ++ zs))
  three-tables xs ys zs i j a b c hi hj ha hb hc =
      hc
      ∙ ap (λ (k : ℕ). found_or k (lowest_from j p zs)) (hb ∙ ap (λ (k : ℕ). found_or k (lowest_from i p ys)) ha)
      ∙ found_assoc (lowest_from 1 p xs) (lowest_from i p ys) (lowest_from j p zs)
      ∙ ap (λ (k : ℕ). found_or (lowest_from 1 p xs) (found_or (lowest_from i p ys) (lowest_from k p zs))) hj
      ∙ ap (found_or (lowest_from 1 p xs)) (sym (from_append ys zs i (omega (arith, hi))))
      ∙ ap (λ (k : ℕ). found_or (lowest_from 1 p xs) (lowest_from k p (ys ++ zs))) hi
      ∙ sym (from_append xs (ys ++ zs) 1 (omega arith))

  -- ---- one table

  -- how many pairs come before the first whose row passes
  unfoldable pub misses : List (List ℕ) → ℕ
  misses [] = 0
  misses (x ∷ xs) = cond (p (row x)) 0 (suc (misses xs))

  pub misses_none : misses [] ≡ 0
  unfolding misses
  misses_none = refl

  pub misses_hit : (x : List ℕ) (xs : List (List ℕ)) → p (row x) ≡ true → misses (x ∷ xs) ≡ 0
  unfolding misses
  misses_hit x xs e = rw e refl

  pub misses_more : (x : List ℕ) (xs : List (List ℕ)) → p (row x) ≡ false → misses (x ∷ xs) ≡ misses xs + 1
  unfolding misses
  misses_more x xs e = rw e (omega arith)

  pub lowest_found : (xs : List (List ℕ)) (i : ℕ) → misses xs < length xs → i + misses xs ≡ lowest_from i p (map row xs)
  unfolding lowest_from misses
  lowest_found [] i h = absurd (omega arith)
  lowest_found (x ∷ xs) i h =
      on (p (row x))
      (λ q. rw (q, lowest_from) (omega arith))
      (λ q. let m = misses_more x xs q in rw (q, lowest_from) (omega (arith, lowest_found xs (suc i) (omega (arith, m, h)))))

  pub lowest_none : (xs : List (List ℕ)) (i : ℕ) → length xs ≤ misses xs → 0 ≡ lowest_from i p (map row xs)
  unfolding lowest_from misses
  lowest_none [] i h = refl
  lowest_none (x ∷ xs) i h =
      on (p (row x))
      (λ q. let m = misses_hit x xs q in absurd (omega (arith, m, h)))
      (λ q. let m = misses_more x xs q in rw (q, lowest_from) (lowest_none xs (suc i) (omega (arith, m, h))))
