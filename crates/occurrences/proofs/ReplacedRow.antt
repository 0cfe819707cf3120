-- An index with a row turned over in its literals' sets is that of the rows with one more, or with one in the place of another. Bit by bit.
use mathlib.Core.Path.{◌≡◌, refl, sym, ap, ap₂, ◌∙◌, fun_ext}
use mathlib.Core.Bool.{Bool, true, false, ◌&&◌, ◌||◌}
use mathlib.Core.List.{List, [], ◌∷◌, ◌++◌}
use Prim.Native.Nat.{ℕ, zero, suc, ◌+◌, ◌*◌, ◌/◌, ◌%◌, ◌^◌, ◌≤◌, ◌<◌}
use native.Mathlib.Nat.{le_of_suc-le-suc, not-suc-le-zero, mod-lt, zero-lt-suc}
use native.Mathlib.Numerals.{add-one}
use native.Mathlib.Omega.{arith}
use lib.Dec.{eqb, eqb-zero-suc, eqb-suc-zero, eqb-suc-suc}
use lib.Bits.{bit_xor, or_zero_l, xor_shr, xor_mod, xor_lt}
use lib.Pow.{pow-lt}
use lib.ListN.{length, get_or, set}
use borrow.Author.Tests.{eqb-true, eqb-false, eq-eqb, ne_eqb}
use Rattle.words.specs.declared.Row.{Row}
use Rattle.words.specs.Booleans.{◌⊕◌}
use Rattle.words.specs.Sets.{bit, put}
use Rattle.words.proofs.Truth.{on, and_l, and_r, taut2, agree, agree_eq}
use Rattle.words.proofs.Bits.{bit-zero, bit-put}
use Rattle.words.proofs.Operations.{bit_ext}
use Rattle.words.proofs.WordOf.{bit_word_of, word_of_lt, word_of_cong}
use Rattle.tables.specs.Rows.{row_at, rows_from, empty}
use Rattle.tables.proofs.Numbering.{table-length}
use Rattle.occurrences.specs.Index.{at, word_at, index_of}
use Rattle.occurrences.specs.RowWords.{numbered, literals_of, turned, replaced_sets}
use Rattle.occurrences.proofs.SetLaws.{at_past, at_last, word-bit, rows_last}
use Rattle.occurrences.proofs.IndexLaws.{index-length}
use Rattle.occurrences.proofs.ByNumber.{number_at, index_ext}
use Rattle.occurrences.proofs.Turning.{turned-length, turned-at, turned_past}

-- ---- bits turned over

digit_xor : (x y : ℕ) → x < 2 → y < 2 → eqb (bit_xor x y) 1 ≡ eqb x 1 ⊕ eqb y 1
digit_xor zero zero h k = refl
digit_xor zero (suc zero) h k = refl
digit_xor (suc zero) zero h k = refl
digit_xor (suc zero) (suc zero) h k = refl
digit_xor zero (suc (suc y)) h k = absurd (omega arith)
digit_xor (suc zero) (suc (suc y)) h k = absurd (omega arith)
digit_xor (suc (suc x)) y h k = absurd (omega arith)

bit_of_xor : (a b i : ℕ) → bit (bit_xor a b) i ≡ bit a i ⊕ bit b i
unfolding bit
bit_of_xor a b i =
    ap (λ (x : ℕ). eqb (x % 2) 1) (xor_shr a b i) ∙ ap (λ (x : ℕ). eqb x 1) (xor_mod (a / 2 ^ i) (b / 2 ^ i) 1)
    ∙ digit_xor (a / 2 ^ i % 2) (b / 2 ^ i % 2) (mod-lt (a / 2 ^ i) (zero-lt-suc 1)) (mod-lt (b / 2 ^ i) (zero-lt-suc 1))

-- a word with one bit
bit-alone : (v i : ℕ) → bit (2 ^ v) i ≡ eqb i v
unfolding put
bit-alone v i = ap (λ (x : ℕ). bit x i) (sym (or_zero_l (2 ^ v))) ∙ bit-put 0 v i ∙ rw (bit-zero i)

none-turned : (a : Bool) → a ⊕ false ≡ a
none-turned true = refl
none-turned false = refl

-- ---- an index whose rows differ in one

-- a row's number as word and bit
number_bit : (r j : ℕ) → eqb (64 * (r / 64) + j) r ≡ eqb j (r % 64)
number_bit r j =
    on (eqb j (r % 64))
    (λ e. let z = eqb-true j (r % 64) e in eq-eqb (64 * (r / 64) + j) r (omega arith) ∙ sym e)
    (λ e. ne_eqb (64 * (r / 64) + j) r (λ z. eqb-false j (r % 64) e (omega arith)) ∙ sym e)

module _ (rows later : List Row) (r : ℕ) (p : ℕ → Bool) (h : (l : ℕ) → l < 64 → (i : ℕ) → at (numbered l) later i
    ≡ at (numbered l) rows i ⊕ (eqb i r && p l)) where
  -- the row's word in the set of a literal that passes
  word-turned : (l : ℕ) → l < 64 → p l ≡ true → bit_xor (word_at (numbered l) rows (r / 64)) (2 ^ (r % 64)) ≡ word_at (numbered l) later (r / 64)
  word-turned l b e =
      let w = r / 64 in
      let set = numbered l in
      bit_ext 64 _ _ (xor_lt 64 (word_at set rows w) (2 ^ (r % 64)) (word_of_lt _ 64) (pow-lt {i = r % 64} {j = 64} (omega arith))) (word_of_lt _ 64)
      (λ j c.
      bit_of_xor (word_at set rows w) (2 ^ (r % 64)) j
      ∙ ap₂ ◌⊕◌ (word-bit set rows w j c) (bit-alone (r % 64) j ∙ sym (number_bit r j))
      ∙ sym (word-bit set later w j c ∙ h l b (64 * w + j) ∙ rw e (ap (λ (x : Bool). at set rows (64 * w + j) ⊕ x) (all (eqb (64 * w + j) r)))))
    where
      all : (a : Bool) → a && true ≡ a
      all true = refl
      all false = refl

  -- any other word
  word_kept : (l w : ℕ) → l < 64 → eqb w (r / 64) && p l ≡ false → word_at (numbered l) rows w ≡ word_at (numbered l) later w
  word_kept l w b none =
      word_of_cong (λ j. at (numbered l) rows (64 * w + j)) (λ j. at (numbered l) later (64 * w + j)) 64
      (λ j c. sym (h l b (64 * w + j) ∙ ap (λ (x : Bool). at (numbered l) rows (64 * w + j) ⊕ x) (other j c) ∙ none-turned _))
    where
      other : (j : ℕ) → j < 64 → eqb (64 * w + j) r && p l ≡ false
      other j c = on (eqb (64 * w + j) r) (λ e. rw e (rw (eq-eqb w (r / 64) (omega (arith, eqb-true (64 * w + j) r e))) at none)) (λ e. rw e)

  pub turned-index : turned p r (index_of rows) ≡ index_of later
  turned-index =
      index_ext later (turned p r (index_of rows)) (turned-length p r (index_of rows) ∙ index-length rows)
      (λ l w b c.
      let q : (6 * l + w) / 6 ≡ l = omega arith in
      let m : (6 * l + w) % 6 ≡ w = omega arith in
      turned-at p r (index_of rows) (6 * l + w) (omega (arith, index-length rows))
      ∙ rw (q, m, number_at rows l w b c)
      (on (eqb w (r / 64) && p l)
      (λ e.
      let z = eqb-true w (r / 64) (and_l (eqb w (r / 64)) (p l) e) in
      rw (e, z) (word-turned l b (and_r (eqb w (r / 64)) (p l) e)))
      (λ e. rw e (word_kept l w b e))))

-- ---- one more row

-- its literals, bit by bit
literals-bit : (x : Row) (l : ℕ) → l < 64 → bit (literals_of x) l ≡ numbered l x
unfolding literals_of
literals-bit x l b = bit_word_of (λ l. numbered l x) 64 l b

last-at : (q : Row → Bool) (rows : List Row) (x : Row) (i : ℕ) → at q (rows ++ (x ∷ [])) i ≡ at q rows i ⊕ (eqb i (length rows) && q x)
last-at q rows x i =
    at_last q rows x i
    ∙ on (eqb i (length rows))
    (λ e. rw (e, at_past q rows i (omega (arith, eqb-true i (length rows) e))))
    (λ e. rw e (or-none (at q rows i) ∙ sym (none-turned (at q rows i))))
  where
    or-none : (b : Bool) → b || false ≡ b
    or-none true = refl
    or-none false = refl

-- row r of these words, added to the rows before it
pub row-added : (words : List ℕ) (r left : ℕ) (index : List ℕ) → left ≡ literals_of (row_at words r) → index ≡ index_of (rows_from words 0 r)
    → turned (bit left) r index ≡ index_of (rows_from words 0 (r + 1))
row-added words r left index e q =
    let rows = rows_from words 0 r in
    let row = row_at words r in
    let z : 0 + r ≡ r = omega arith in
    ap₂ (λ (x : ℕ) (y : List ℕ). turned (bit x) r y) e q
    ∙ turned-index rows (rows ++ (row ∷ [])) r (bit (literals_of row))
    (λ l b i. last-at (numbered l) rows row i ∙ ap₂ (λ (k : ℕ) (x : Bool). at (numbered l) rows i ⊕ (eqb i k && x)) (table-length words 0 r)
    (sym (literals-bit row l b)))
    ∙ sym (ap (λ (k : ℕ). index_of (rows_from words 0 k)) (add-one r) ∙ ap index_of (rows_last words 0 r ∙ ap (λ (k : ℕ). rows ++ (row_at words k ∷ [])) z))

-- ---- one row in the place of another

set_at : (q : Row → Bool) (rows : List Row) (i : ℕ) (new : Row) (k : ℕ) → i < length rows
    → at q (set rows i new) k ≡ at q rows k ⊕ (eqb k i && (q (get_or rows i empty) ⊕ q new))
unfolding at
set_at q [] i new k h = absurd (not-suc-le-zero h)
set_at q (x ∷ xs) zero new zero h = agree_eq (taut2 (λ a b. agree b (a ⊕ (a ⊕ b))) refl (q x) (q new))
set_at q (x ∷ xs) zero new (suc k) h = sym (ap (λ (b : Bool). at q xs k ⊕ (b && (q x ⊕ q new))) (eqb-suc-zero k) ∙ none-turned (at q xs k))
set_at q (x ∷ xs) (suc i) new zero h = sym (ap (λ (b : Bool). q x ⊕ (b && (q (get_or xs i empty) ⊕ q new))) (eqb-zero-suc i) ∙ none-turned (q x))
set_at q (x ∷ xs) (suc i) new (suc k) h =
    set_at q xs i new k (le_of_suc-le-suc h) ∙ ap (λ (b : Bool). at q xs k ⊕ (b && (q (get_or xs i empty) ⊕ q new))) (sym (eqb-suc-suc k i))

-- the sets of all rows become those of the rows as they are then
pub replaced-index : (rows : List Row) (i : ℕ) (new : Row) → i < length rows
    → replaced_sets (index_of rows) i (get_or rows i empty) new ≡ index_of (set rows i new)
unfolding replaced_sets
replaced-index rows i new h =
    let old = get_or rows i empty in
    turned-index rows (set rows i new) i (λ l. bit (literals_of old) l ⊕ bit (literals_of new) l)
    (λ l b k. set_at (numbered l) rows i new k h
    ∙ ap₂ (λ (x y : Bool). at (numbered l) rows k ⊕ (eqb k i && (x ⊕ y))) (sym (literals-bit old l b)) (sym (literals-bit new l b)))

-- as code has it: from both rows' literals, for a row that can be in a set
module _ (index : List ℕ) (row : ℕ) (old new : Row) where
  pub turned-replaced : (a b : ℕ) → a ≡ literals_of old → b ≡ literals_of new → turned (bit (bit_xor a b)) row index ≡ replaced_sets index row old new
  unfolding replaced_sets
  turned-replaced a b e q =
      ap (λ (p : ℕ → Bool). turned p row index) (fun_ext (λ l. bit_of_xor a b l ∙ ap₂ (λ (x y : ℕ). bit x l ⊕ bit y l) e q))

  pub past_replaced : 384 ≤ row → index ≡ replaced_sets index row old new
  unfolding replaced_sets
  past_replaced h = sym (turned_past (λ l. bit (literals_of old) l ⊕ bit (literals_of new) l) row index h)
