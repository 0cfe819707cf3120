-- What the checks of sizes give: each refusal by its condition, and limits and lengths where none holds. Each by the checks' order.
use mathlib.Core.Path.{◌≡◌, sym, ap, ◌∙◌}
use mathlib.Core.Bool.{Bool, true, false, ◌||◌}
use mathlib.Core.List.{List, [], ◌∷◌, ◌++◌}
use Prim.Native.Nat.{ℕ, ◌*◌, ◌≤◌, ◌<◌}
use lib.Dec.{ltb}
use lib.ListN.{length}
use lib.Seq.{sets}
use borrow.Author.Tests.{ltb-false, lt-ltb, le-ltb}
use Rattle.std.specs.Prelude.{Ok, Err}
use Rattle.refusals.specs.Numbers.{Outcome}
use Rattle.refusals.specs.Checks.{check, outcome, given}
use Rattle.refusals.specs.declared.Refusal.{Refusal}
use Rattle.refusals.specs.declared.Refusal.TheVariants.{Variables, RowCount, RowBuffer}
use Rattle.refusals.proofs.Outcomes.{outcome-taken, outcome-refused, outcome_parts, check_passed, checks-taken}
use Rattle.words.proofs.Truth.{or_l, or_r}
use Rattle.dimensions.specs.Sizes.{outside}
use Rattle.dimensions.proofs.Limits.{most}
use Rattle.columns.specs.Planes.{square_count, planes_of, table_from}
use Rattle.columns.specs.Columns.{buffer_checks, column_checks, columns_after, row_checks, rows_after}

abbrev pub short : ℕ → ℕ → ℕ → Bool
short rows words space = ltb words (2 * rows) || ltb space (64 * square_count rows)

module _ (n rows words space : ℕ) where
  pub refuse_variables : outside 32 n ≡ true → Err Variables ≡ outcome (buffer_checks n rows words space)
  refuse_variables h = rw h

  module _ (hn : outside 32 n ≡ false) where
    pub refuse_rows : 128 < rows → Err RowCount ≡ outcome (buffer_checks n rows words space)
    refuse_rows h = rw (hn, lt-ltb 128 rows h)

    module _ (hr : rows ≤ 128) where
      pub refuse_buffer : short rows words space ≡ true → Err RowBuffer ≡ outcome (buffer_checks n rows words space)
      refuse_buffer h = rw (hn, le-ltb 128 rows hr, h)

      pub take-sizes : short rows words space ≡ false → Ok tt ≡ outcome (buffer_checks n rows words space)
      take-sizes h = rw (hn, le-ltb 128 rows hr, h)

-- sizes within their limits, and buffers that are long enough
pub record Within (n rows words space : ℕ) : Type 0 where
  pub n-most : n ≤ 32
  pub rows-most : rows ≤ 128
  pub row_words : 2 * rows ≤ words
  pub plane_words_lem : 64 * square_count rows ≤ space

pub within : (n rows words space : ℕ) → outcome (buffer_checks n rows words space) ≡ Ok tt → Within n rows words space
within n rows words space e =
    let n-in = check_passed (outside 32 n) Variables _ e in
    let e₁ = checks-taken (outside 32 n) Variables _ e in
    let rows_in = check_passed (ltb 128 rows) RowCount _ e₁ in
    let e₂ = checks-taken (ltb 128 rows) RowCount _ e₁ in
    let long = check_passed (short rows words space) RowBuffer _ e₂ in
    record {
      n-most = most 32 n n-in;
      rows-most = ltb-false 128 rows rows_in;
      row_words = ltb-false words (2 * rows) (or_l (ltb words (2 * rows)) (ltb space (64 * square_count rows)) long);
      plane_words_lem = ltb-false space (64 * square_count rows) (or_r (ltb words (2 * rows)) (ltb space (64 * square_count rows)) long);
    }

-- the same limits with other buffers that are long enough
pub taken-within : (n rows words space words' space' : ℕ) → outcome (buffer_checks n rows words space) ≡ Ok tt → 2 * rows ≤ words'
    → 64 * square_count rows ≤ space'
    → outcome (buffer_checks n rows words' space') ≡ Ok tt
taken-within n rows words space words' space' e h k =
    let n-in = check_passed (outside 32 n) Variables _ e in
    let e₁ = checks-taken (outside 32 n) Variables _ e in
    let rows_in = check_passed (ltb 128 rows) RowCount _ e₁ in
    rw (n-in, rows_in, le-ltb words' (2 * rows) h, le-ltb space' (64 * square_count rows) k)

-- one more check after those of the sizes
module _ (n rows words space : ℕ) (b : Bool) (last : Refusal) where
  pub refuse_size : (r : Refusal) → outcome (buffer_checks n rows words space) ≡ Err r
      → Err r ≡ outcome (buffer_checks n rows words space ++ check b last ∷ [])
  refuse_size r e = sym (outcome-refused (buffer_checks n rows words space) (check b last ∷ []) r e)

  -- all are passed
  pub all-taken : outcome (buffer_checks n rows words space ++ check b last ∷ []) ≡ Ok tt
      → (outcome (buffer_checks n rows words space) ≡ Ok tt) × (b ≡ false)
  all-taken e = let parts = outcome_parts (buffer_checks n rows words space) (check b last ∷ []) e in (parts.0, check_passed b last (Ok tt) parts.1)

  module _ (e : outcome (buffer_checks n rows words space) ≡ Ok tt) where
    pub refuse_last : b ≡ true → Err last ≡ outcome (buffer_checks n rows words space ++ check b last ∷ [])
    refuse_last h = sym (outcome-taken (buffer_checks n rows words space) (check b last ∷ []) e ∙ rw h)

    pub take_last : b ≡ false → Ok tt ≡ outcome (buffer_checks n rows words space ++ check b last ∷ [])
    take_last h = sym (outcome-taken (buffer_checks n rows words space) (check b last ∷ []) e ∙ rw h)

-- what the lent words hold afterwards
module _ (n rows : ℕ) (table planes : List ℕ) where
  pub columns-refused : (r : Refusal) → Err r ≡ outcome (column_checks n rows table (length planes)) → planes ≡ columns_after n rows table planes
  unfolding columns_after
  columns-refused r e = ap (λ (o : Outcome). given o (sets planes 0 (planes_of rows table)) (λ r. planes)) e

  pub columns-taken : (Ok tt) ≡ outcome (column_checks n rows table (length planes))
      → sets planes 0 (planes_of rows table) ≡ columns_after n rows table planes
  unfolding columns_after
  columns-taken e = ap (λ (o : Outcome). given o (sets planes 0 (planes_of rows table)) (λ r. planes)) e

module _ (n rows : ℕ) (planes table : List ℕ) where
  pub rows-refused : (r : Refusal) → Err r ≡ outcome (row_checks n rows planes (length table)) → table ≡ rows_after n rows planes table
  unfolding rows_after
  rows-refused r e = ap (λ (o : Outcome). given o (sets table 0 (table_from rows planes)) (λ r. table)) e

  pub rows_taken : (Ok tt) ≡ outcome (row_checks n rows planes (length table)) → sets table 0 (table_from rows planes) ≡ rows_after n rows planes table
  unfolding rows_after
  rows_taken e = ap (λ (o : Outcome). given o (sets table 0 (table_from rows planes)) (λ r. table)) e
