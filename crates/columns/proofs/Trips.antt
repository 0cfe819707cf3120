-- Both ways, as the entries go them: what a table's planes hold, the entry for planes takes and gives the table back; and what planes hold,
-- the entry for tables takes and gives the planes back. Only the words that are named count, and these are the words that were written.
use mathlib.Core.Path.{◌≡◌, refl, sym, ap, ◌∙◌, subst}
use mathlib.Core.Bool.{true, false, not}
use mathlib.Core.List.{List}
use Prim.Native.Nat.{ℕ, zero, suc, ◌+◌, ◌*◌, ◌/◌, ◌%◌, ◌^◌, ◌≤◌, ◌<◌}
use native.Mathlib.Nat.{add-zero, add-suc, suc-add, zero-lt-suc, lt_of_lt_of_le, le_of_eq}
use native.Mathlib.Omega.{arith}
use lib.Dec.{ltb}
use lib.Pow.{pow_pos, pow_mono}
use lib.ListN.{length, get_or, take, get_or-eq_default}
use lib.Seq.{sets, length-sets, take_all}
use borrow.Author.Tests.{lt-ltb, le-ltb, ltb-true, ltb-false, not-false}
use Rattle.std.specs.Prelude.{Ok}
use Rattle.refusals.specs.Checks.{outcome}
use Rattle.refusals.specs.declared.Refusal.TheVariants.{RowBit, PlaneBits}
use Rattle.words.specs.Sets.{bit}
use Rattle.words.proofs.Truth.{on, and_i}
use Rattle.words.proofs.Upto.{any_none}
use Rattle.words.proofs.Last.{any_cong}
use Rattle.words.proofs.Operations.{bit_high}
use Rattle.words.proofs.WordOf.{word_of_cong}
use Rattle.words.proofs.Stores.{stored_at, stored-take}
use Rattle.tables.specs.Acceptance.{all_below, high}
use Rattle.tables.proofs.Below.{below_at}
use Rattle.squares.specs.Squares.{tabulate, column, plane_at}
use Rattle.columns.specs.Planes.{square_count, planes_of, row_word, table_from, squares_from}
use Rattle.squares.proofs.Tabulating.{length-tabulate, at-tabulate, tabulate_cong}
use Rattle.columns.specs.Columns.{buffer_checks, column_checks, columns_after, room, stray, row_checks, rows_after}
use Rattle.columns.proofs.Buffers.{Within, within, taken-within, all-taken, take_last, columns-taken, rows_taken}
use Rattle.columns.proofs.Inverse.{table-back}
use Rattle.columns.proofs.Round.{word_of_width, length_squares, planes_clean, planes_back}

-- ---- rows and stray bits are read off the squares alone

module _ (rows : ℕ) (a b : List ℕ) (same : (q : ℕ) → q < 64 * square_count rows → get_or a q 0 ≡ get_or b q 0) where
  row_same : (q : ℕ) → q < 2 * rows → row_word a q ≡ row_word b q
  unfolding row_word column
  row_same q h =
      let s : ℕ = q / 64 in
      let sign : ℕ = q % 2 in
      word_of_cong (λ i. bit (get_or (plane_at a s sign) i 0) (q % 64 / 2)) (λ i. bit (get_or (plane_at b s sign) i 0) (q % 64 / 2)) 32
      (λ i c.
      ap (λ (x : ℕ). bit x (q % 64 / 2))
      (at-tabulate (λ i. get_or a (64 * s + 32 * sign + i) 0) 0 32 i c
      ∙ same (64 * s + 32 * sign + (0 + i)) (omega arith)
      ∙ sym (at-tabulate (λ i. get_or b (64 * s + 32 * sign + i) 0) 0 32 i c)))

  table_same : table_from rows a ≡ table_from rows b
  unfolding table_from
  table_same = tabulate_cong (row_word a) (row_word b) 0 0 (2 * rows) (λ q h. row_same (0 + q) (omega arith))

  stray-same : (n : ℕ) → stray n rows a ≡ stray n rows b
  unfolding stray
  stray-same n = any_cong _ _ (64 * square_count rows) (λ q h. ap (λ (x : ℕ). not (ltb x (2 ^ room n rows q))) (same q h))

-- values below 2 ^ n, as a test
low-tabulate : (n : ℕ) (f : ℕ → ℕ) (i k : ℕ) → ((x : ℕ) → x < k → f (i + x) < 2 ^ n) → all_below n (tabulate f i k) ≡ true
unfolding all_below
low-tabulate n f i zero h = refl
low-tabulate n f i (suc k) h =
    and_i (lt-ltb (f i) (2 ^ n) (subst (λ (x : ℕ). f x < 2 ^ n) (add-zero i) (h 0 (zero-lt-suc k))))
    (low-tabulate n f (suc i) k (λ x b. subst (λ (y : ℕ). f y < 2 ^ n) (add-suc i x ∙ sym (suc-add i x)) (h (suc x) (omega arith))))

-- ---- the rows of planes without a stray bit have no bit at or above n

module _ (n rows : ℕ) (planes : List ℕ) (clean : stray n rows planes ≡ false) where
  -- the word of a variable beyond n is zero
  word_none : (q : ℕ) → q < 64 * square_count rows → n ≤ q % 32 → (j : ℕ) → bit (get_or planes q 0) j ≡ false
  unfolding stray
  word_none q h above j =
      let low = ltb-true (get_or planes q 0) (2 ^ room n rows q)
      (not-false (ltb (get_or planes q 0) (2 ^ room n rows q)) (any_none (λ q. not (ltb (get_or planes q 0) (2 ^ room n rows q)))
      (64 * square_count rows) clean q h)) in
      bit_high 0 (get_or planes q 0) j (rw (le-ltb (q % 32) n above) at low) (omega arith)

  row_low : (q : ℕ) → q < 2 * rows → row_word planes q < 2 ^ n
  unfolding row_word column
  row_low q h =
      let s : ℕ = q / 64 in
      let sign : ℕ = q % 2 in
      word_of_width (λ i. bit (get_or (plane_at planes s sign) i 0) (q % 64 / 2)) 32 n
      (λ i b c.
      let place : (64 * s + 32 * sign + (0 + i)) % 32 ≡ i = omega arith in
      ap (λ (x : ℕ). bit x (q % 64 / 2)) (at-tabulate (λ i. get_or planes (64 * s + 32 * sign + i) 0) 0 32 i b)
      ∙ word_none (64 * s + 32 * sign + (0 + i)) (omega arith) (subst (λ (x : ℕ). n ≤ x) (sym place) c) (q % 64 / 2))

  table-low : all_below n (table_from rows planes) ≡ true
  unfolding table_from
  table-low = low-tabulate n (row_word planes) 0 (2 * rows) (λ q h. row_low (0 + q) (omega arith))

-- ---- a table there and back

module _ (n rows : ℕ) (table planes lent : List ℕ) (taken : outcome (column_checks n rows table (length planes)) ≡ Ok tt)
    (fits : 2 * rows ≤ length lent) where
  parts : (outcome (buffer_checks n rows (length table) (length planes)) ≡ Ok tt) × (high n rows table ≡ false)
  parts = all-taken n rows (length table) (length planes) (high n rows table) RowBit taken

  w : Within n rows (length table) (length planes)
  w = within n rows (length table) (length planes) parts.0

  low : all_below n (take (2 * rows) table) ≡ true
  low = not-false (all_below n (take (2 * rows) table)) parts.1

  small : (q : ℕ) → get_or (take (2 * rows) table) q 0 < 2 ^ n
  small q =
      on (ltb q (length (take (2 * rows) table)))
      (λ h. below_at n (take (2 * rows) table) low q (ltb-true q _ h))
      (λ h. subst (λ (x : ℕ). x < 2 ^ n) (sym (get_or-eq_default (take (2 * rows) table) 0 (ltb-false q _ h))) (pow_pos n))

  written : List ℕ
  written = planes_of rows table

  size : length written ≡ 64 * square_count rows
  unfolding written planes_of
  size = length_squares (take (2 * rows) table) 0 (square_count rows)

  now_there : columns_after n rows table planes ≡ sets planes 0 written
  unfolding written
  now_there = sym (columns-taken n rows table planes (sym taken))

  same : (q : ℕ) → q < 64 * square_count rows → get_or (columns_after n rows table planes) q 0 ≡ get_or written q 0
  same q h =
      ap (λ (l : List ℕ). get_or l q 0) now_there
      ∙ stored_at planes written (subst (λ (k : ℕ). k ≤ length planes) (sym size) w.plane_words_lem) q (subst (λ (k : ℕ). q < k) (sym size) h)

  -- the planes of an accepted table are accepted
  pub planes_taken : outcome (row_checks n rows (columns_after n rows table planes) (length lent)) ≡ Ok tt
  unfolding written
  planes_taken =
      let long : length (columns_after n rows table planes) ≡ length planes = ap length now_there ∙ length-sets planes 0 written in
      sym (take_last n rows (length lent) (length (columns_after n rows table planes)) (stray n rows (columns_after n rows table planes)) PlaneBits
      (taken-within n rows (length table) (length planes) (length lent) (length (columns_after n rows table planes)) parts.0 fits
      (subst (λ (k : ℕ). 64 * square_count rows ≤ k) (sym long) w.plane_words_lem))
      (stray-same rows (columns_after n rows table planes) written same n ∙ planes_clean n rows table w.row_words small))

  -- "the inverse gives back the rows exactly": into any lent words, whose others stay
  pub rows_back : rows_after n rows (columns_after n rows table planes) lent ≡ sets lent 0 (take (2 * rows) table)
  unfolding written
  rows_back =
      sym (rows_taken n rows (columns_after n rows table planes) lent (sym planes_taken))
      ∙ ap (sets lent 0)
      (table_same rows (columns_after n rows table planes) written same
      ∙ table-back rows table w.row_words (λ q. lt_of_lt_of_le (small q) (pow_mono w.n-most)))

-- ---- planes there and back

module _ (n rows : ℕ) (planes table lent : List ℕ) (taken : outcome (row_checks n rows planes (length table)) ≡ Ok tt)
    (fits : 64 * square_count rows ≤ length lent) where
  passed : (outcome (buffer_checks n rows (length table) (length planes)) ≡ Ok tt) × (stray n rows planes ≡ false)
  passed = all-taken n rows (length table) (length planes) (stray n rows planes) PlaneBits taken

  in_limits : Within n rows (length table) (length planes)
  in_limits = within n rows (length table) (length planes) passed.0

  restored : rows_after n rows planes table ≡ sets table 0 (table_from rows planes)
  restored = sym (rows_taken n rows planes table (sym taken))

  row_words : length (table_from rows planes) ≡ 2 * rows
  unfolding table_from
  row_words = length-tabulate (row_word planes) 0 (2 * rows)

  front-rows : take (2 * rows) (rows_after n rows planes table) ≡ table_from rows planes
  front-rows =
      ap (take (2 * rows)) restored
      ∙ stored-take table (table_from rows planes) (subst (λ (k : ℕ). k ≤ length table) (sym row_words) in_limits.row_words) (2 * rows) row_words

  -- the rows of accepted planes are accepted
  pub table_taken : outcome (column_checks n rows (rows_after n rows planes table) (length lent)) ≡ Ok tt
  table_taken =
      let long : length (rows_after n rows planes table) ≡ length table = ap length restored ∙ length-sets table 0 (table_from rows planes) in
      sym (take_last n rows (length (rows_after n rows planes table)) (length lent) (high n rows (rows_after n rows planes table)) RowBit
      (taken-within n rows (length table) (length planes) (length (rows_after n rows planes table)) (length lent) passed.0
      (subst (λ (k : ℕ). 2 * rows ≤ k) (sym long) in_limits.row_words) fits)
      (ap (λ (l : List ℕ). not (all_below n l)) front-rows ∙ ap not (table-low n rows planes passed.1)))

  -- and have these planes back, in any lent words, whose others stay
  pub columns-back : columns_after n rows (rows_after n rows planes table) lent ≡ sets lent 0 (take (64 * square_count rows) planes)
  unfolding planes_of
  columns-back =
      sym (columns-taken n rows (rows_after n rows planes table) lent (sym table_taken))
      ∙ ap (λ (l : List ℕ). sets lent 0 (squares_from l 0 (square_count rows)))
      (front-rows ∙ sym (take_all (2 * rows) (table_from rows planes) (le_of_eq row_words)))
      ∙ ap (sets lent 0) (planes_back n rows planes in_limits.plane_words_lem passed.1)
