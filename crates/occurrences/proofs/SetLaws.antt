-- Sets of rows by number: tests row by row, the rows of a table's words, one more row, and what a word of a set has. By induction on the list.
use mathlib.Core.Path.{◌≡◌, refl, sym, ap, ◌∙◌}
use mathlib.Core.Bool.{Bool, true, false, ◌&&◌, ◌||◌}
use mathlib.Core.List.{List, [], ◌∷◌, ◌++◌}
use Prim.Native.Nat.{ℕ, zero, suc, ◌+◌, ◌*◌, ◌≤◌, ◌<◌}
use native.Mathlib.Nat.{le_of_suc-le-suc, not-suc-le-zero}
use native.Mathlib.Omega.{arith}
use lib.Dec.{eqb, eqb-zero-suc, eqb-suc-zero, eqb-suc-suc}
use lib.ListN.{length, get_or}
use Rattle.words.specs.declared.Row.{Row}
use Rattle.words.specs.Sets.{bit, count}
use Rattle.words.proofs.Upto.{count_cong}
use Rattle.words.proofs.WordOf.{bit_word_of}
use Rattle.tables.specs.Rows.{row_at, rows_from}
use Rattle.occurrences.specs.Index.{at, word_at}

-- a test of rows that fails what fails p and q goes row by row
pub at_both : (p q r : Row → Bool) (c : Bool → Bool → Bool) → c false false ≡ false → ((x : Row) → r x ≡ c (p x) (q x))
    → (rows : List Row) (i : ℕ) → at r rows i ≡ c (at p rows i) (at q rows i)
unfolding at
at_both p q r c z h [] i = sym z
at_both p q r c z h (x ∷ xs) zero = h x
at_both p q r c z h (x ∷ xs) (suc i) = at_both p q r c z h xs i

module _ (p : Row → Bool) where
  -- none past the last passes
  pub at_past : (rows : List Row) (i : ℕ) → length rows ≤ i → at p rows i ≡ false
  unfolding at
  at_past [] i h = refl
  at_past (x ∷ xs) zero h = absurd (not-suc-le-zero h)
  at_past (x ∷ xs) (suc i) h = at_past xs i (le_of_suc-le-suc h)

  -- each other row is tested, whatever is taken for one past the last
  pub at_row : (z : Row) (rows : List Row) (i : ℕ) → i < length rows → at p rows i ≡ p (get_or rows i z)
  unfolding at
  at_row z [] i h = absurd (not-suc-le-zero h)
  at_row z (x ∷ xs) zero h = refl
  at_row z (x ∷ xs) (suc i) h = at_row z xs i (le_of_suc-le-suc h)

  -- rows of a table's words
  pub at_words : (words : List ℕ) (j k i : ℕ) → i < k → at p (rows_from words j k) i ≡ p (row_at words (j + i))
  unfolding at
  at_words words j zero i h = absurd (not-suc-le-zero h)
  at_words words j (suc k) zero h = let z : j ≡ j + 0 = omega arith in ap (λ (x : ℕ). p (row_at words x)) z
  at_words words j (suc k) (suc i) h =
      let z : suc j + i ≡ j + suc i = omega arith in
      at_words words (suc j) k i (le_of_suc-le-suc h) ∙ ap (λ (x : ℕ). p (row_at words x)) z

  -- one more row
  pub at_last : (rows : List Row) (x : Row) (i : ℕ) → at p (rows ++ (x ∷ [])) i ≡ at p rows i || (eqb i (length rows) && p x)
  unfolding at
  at_last [] x zero = refl
  at_last [] x (suc i) = sym (ap (λ (b : Bool). b && p x) (eqb-suc-zero i))
  at_last (y ∷ ys) x zero = sym (ap (λ (b : Bool). p y || (b && p x)) (eqb-zero-suc (length ys)) ∙ or-none (p y))
    where
      or-none : (b : Bool) → b || false ≡ b
      or-none true = refl
      or-none false = refl
  at_last (y ∷ ys) x (suc i) = at_last ys x i ∙ ap (λ (b : Bool). at p ys i || (b && p x)) (sym (eqb-suc-suc i (length ys)))

  -- a word of a set
  pub word-bit : (rows : List Row) (w j : ℕ) → j < 64 → bit (word_at p rows w) j ≡ at p rows (64 * w + j)
  word-bit rows w j b = bit_word_of (λ j. at p rows (64 * w + j)) 64 j b

  -- word w of a set has as many bits set as rows pass among rows 64 w to 64 w + 63
  pub word_size : (rows : List Row) (w : ℕ) → count (bit (word_at p rows w)) 64 ≡ count (λ j. at p rows (64 * w + j)) 64
  word_size rows w = count_cong (bit (word_at p rows w)) (λ j. at p rows (64 * w + j)) 64 (word-bit rows w)

-- one more
pub rows_last : (words : List ℕ) (j k : ℕ) → rows_from words j (suc k) ≡ rows_from words j k ++ (row_at words (j + k) ∷ [])
rows_last words j zero = let z : j ≡ j + 0 = omega arith in ap (λ (x : ℕ). row_at words x ∷ []) z
rows_last words j (suc k) =
    let z : suc j + k ≡ j + suc k = omega arith in
    ap (λ (l : List Row). row_at words j ∷ l) (rows_last words (suc j) k ∙ ap (λ (x : ℕ). rows_from words (suc j) k ++ (row_at words x ∷ [])) z)
