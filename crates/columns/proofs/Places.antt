-- Which bit of the planes holds which literal, there and back, over what the entries leave. Rows and variables are counted from 0; sign 0 is
-- the positive word and plane, sign 1 the negative. Each by the word's place in its square.
use mathlib.Core.Path.{◌≡◌, sym, ap, ap₂, ◌∙◌, subst}
use mathlib.Core.Bool.{false}
use mathlib.Core.List.{List}
use Prim.Native.Nat.{ℕ, ◌+◌, ◌*◌, ◌/◌, ◌%◌, ◌≤◌, ◌<◌}
use native.Mathlib.Nat.{zero-add}
use native.Mathlib.Omega.{arith}
use lib.ListN.{length, get_or, take, get_or-eq_default}
use lib.Seq.{get_or-take, length-take-le}
use Rattle.std.specs.Prelude.{Ok}
use Rattle.refusals.specs.Checks.{outcome}
use Rattle.refusals.specs.declared.Refusal.TheVariants.{RowBit, PlaneBits}
use Rattle.words.specs.Sets.{bit}
use Rattle.words.proofs.Bits.{bit-zero}
use Rattle.words.proofs.Stores.{stored_at}
use Rattle.tables.specs.Acceptance.{high}
use Rattle.squares.specs.Squares.{column, sign_words, plane_at}
use Rattle.columns.specs.Planes.{square_count, planes_of, row_word, table_from}
use Rattle.squares.proofs.Tabulating.{length-tabulate, at-tabulate}
use Rattle.columns.specs.Columns.{column_checks, columns_after, stray, row_checks, rows_after}
use Rattle.columns.proofs.Buffers.{Within, within, all-taken, columns-taken, rows_taken}
use Rattle.columns.proofs.Inverse.{bit-column, at_squares}
use Rattle.columns.proofs.Round.{length_squares}

-- ---- a table's planes

module _ (n rows : ℕ) (table planes : List ℕ) (taken : outcome (column_checks n rows table (length planes)) ≡ Ok tt) where
  w : Within n rows (length table) (length planes)
  w = within n rows (length table) (length planes) (all-taken n rows (length table) (length planes) (high n rows table) RowBit taken).0

  -- bit j of variable v's word in a plane of square s: the square's row j has that literal; a row past the last has none
  in_square : (s sign v j : ℕ) → s < square_count rows → sign < 2 → v < 32 → j < 32
      → bit (get_or (columns_after n rows table planes) (64 * s + 32 * sign + v) 0) j ≡ bit (get_or (take (2 * rows) table) (64 * s + 2 * j + sign) 0) v
  unfolding planes_of
  in_square s sign v j hs hg hv hj =
      let front : List ℕ = take (2 * rows) table in
      let size = length_squares front 0 (square_count rows) in
      let q : ℕ = 64 * s + 32 * sign + v in
      let low : q < 64 * square_count rows = omega arith in
      ap (λ (l : List ℕ). bit (get_or l q 0) j) (sym (columns-taken n rows table planes (sym taken)))
      ∙ ap (λ (x : ℕ). bit x j)
      (stored_at planes (planes_of rows table) (subst (λ (k : ℕ). k ≤ length planes) (sym size) w.plane_words_lem) q
      (subst (λ (k : ℕ). q < k) (sym size) low)
      ∙ at_squares front 0 (square_count rows) s sign v hs hg hv
      ∙ ap (λ (x : ℕ). column (sign_words front x sign) v) (zero-add s))
      ∙ bit-column (sign_words front s sign) v j hj
      ∙ ap (λ (x : ℕ). bit x v) (at-tabulate (λ j. get_or front (64 * s + 2 * j + sign) 0) 0 32 j hj
      ∙ ap (λ (x : ℕ). get_or front (64 * s + 2 * x + sign) 0) (zero-add j))

  -- "each word holds one variable over 32 rows, the first row in the lowest bit, variable 1's word first in each plane, positive plane before
  -- negative. A square is 64 words, squares follow in row order"
  pub literal-place : (r sign v : ℕ) → r < rows → sign < 2 → v < 32
      → bit (get_or (columns_after n rows table planes) (64 * (r / 32) + 32 * sign + v) 0) (r % 32) ≡ bit (get_or table (2 * r + sign) 0) v
  literal-place r sign v h hg hv =
      let place : 64 * (r / 32) + 2 * (r % 32) + sign ≡ 2 * r + sign = omega arith in
      in_square (r / 32) sign v (r % 32) (omega arith) hg hv (omega arith)
      ∙ ap (λ (x : ℕ). bit x v) (ap (λ (x : ℕ). get_or (take (2 * rows) table) x 0) place ∙ get_or-take (2 * rows) table (2 * r + sign) 0 (omega arith))

  -- "Missing rows are zero bits"
  pub missing_row : (r sign v : ℕ) → rows ≤ r → r < 32 * square_count rows → sign < 2 → v < 32
      → bit (get_or (columns_after n rows table planes) (64 * (r / 32) + 32 * sign + v) 0) (r % 32) ≡ false
  missing_row r sign v h last hg hv =
      let past : length (take (2 * rows) table) ≤ 64 * (r / 32) + 2 * (r % 32) + sign = omega (arith, length-take-le (2 * rows) table w.row_words) in
      in_square (r / 32) sign v (r % 32) (omega arith) hg hv (omega arith)
      ∙ ap (λ (x : ℕ). bit x v) (get_or-eq_default (take (2 * rows) table) 0 past)
      ∙ bit-zero v

-- ---- the rows of planes

module _ (n rows : ℕ) (planes table : List ℕ) (taken : outcome (row_checks n rows planes (length table)) ≡ Ok tt) where
  fits : 2 * rows ≤ length table
  fits = (within n rows (length table) (length planes) (all-taken n rows (length table) (length planes) (stray n rows planes) PlaneBits taken).0
      ).row_words

  -- the same place, read back
  pub place-literal : (r sign v : ℕ) → r < rows → sign < 2 → v < 32
      → bit (get_or (rows_after n rows planes table) (2 * r + sign) 0) v ≡ bit (get_or planes (64 * (r / 32) + 32 * sign + v) 0) (r % 32)
  unfolding table_from row_word
  place-literal r sign v h hg hv =
      let q : ℕ = 2 * r + sign in
      let low : q < 2 * rows = omega arith in
      let size = length-tabulate (row_word planes) 0 (2 * rows) in
      let square : q / 64 ≡ r / 32 = omega arith in
      let side : q % 2 ≡ sign = omega arith in
      let row : q % 64 / 2 ≡ r % 32 = omega arith in
      ap (λ (l : List ℕ). bit (get_or l q 0) v) (sym (rows_taken n rows planes table (sym taken)))
      ∙ ap (λ (x : ℕ). bit x v)
      (stored_at table (table_from rows planes) (subst (λ (k : ℕ). k ≤ length table) (sym size) fits) q (subst (λ (k : ℕ). q < k) (sym size) low)
      ∙ at-tabulate (row_word planes) 0 (2 * rows) q low
      ∙ ap (row_word planes) (zero-add q)
      ∙ ap (λ (x : ℕ). column (plane_at planes x (q % 2)) (q % 64 / 2)) square
      ∙ ap₂ (λ (x y : ℕ). column (plane_at planes (r / 32) x) y) side row)
      ∙ bit-column (plane_at planes (r / 32) sign) (r % 32) v hv
      ∙ ap (λ (x : ℕ). bit x (r % 32)) (at-tabulate (λ i. get_or planes (64 * (r / 32) + 32 * sign + i) 0) 0 32 v hv
      ∙ ap (λ (x : ℕ). get_or planes (64 * (r / 32) + 32 * sign + x) 0) (zero-add v))
