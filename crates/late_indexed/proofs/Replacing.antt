-- Index and number from the old and the new row: exactly those of the rows as they are then, since the old row was padding and so satisfied. By induction on
-- the rows, and by the checks in order.
use mathlib.Core.Path.{◌≡◌, sym, ap, ap₂, ◌∙◌}
use mathlib.Core.Bool.{Bool, true, false, not, ◌&&◌}
use mathlib.Core.List.{List, [], ◌∷◌, ◌++◌, append_assoc}
use Prim.Native.Nat.{ℕ, zero, suc, ◌+◌, ◌-◌, ◌≤◌, ◌<◌}
use native.Mathlib.Nat.{le_of_suc-le-suc, not-suc-le-zero}
use native.Mathlib.Omega.{arith}
use lib.Dec.{eqb, ltb, leb}
use lib.ListN.{length, get_or, set}
use borrow.Author.Tests.{lt-ltb, le-leb, leb-true, leb-false, eqb-true}
use Rattle.std.specs.Prelude.{Ok, Err}
use Rattle.refusals.specs.Numbers.{Outcome}
use Rattle.refusals.specs.Checks.{Check, outcome, given}
use Rattle.refusals.specs.declared.Refusal.{Refusal}
use Rattle.refusals.proofs.Outcomes.{outcome_parts, outcome-refused}
use Rattle.words.specs.declared.Row.{Row}
use Rattle.words.specs.Booleans.{digit}
use Rattle.words.specs.Sameness.{same}
use Rattle.words.proofs.Sameness.{same_true}
use Rattle.words.proofs.Truth.{on, digit_lt}
use Rattle.dimensions.specs.declared.Dimensions.{Dimensions}
use Rattle.tables.specs.Tables.{Tables}
use Rattle.tables.specs.Rows.{row_at, rows_of, empty, padding, satisfied}
use Rattle.tables.specs.Acceptance.{table_checks}
use Rattle.tables.proofs.Accepted.{accepted}
use Rattle.tables.proofs.Numbering.{tables-length, left-row, right_row}
use Rattle.tables.proofs.Rows.{satisfied_width}
use Rattle.truth.proofs.LowRows.{low-positive, low-negative}
use Rattle.state.specs.declared.Run.{Run}
use Rattle.state.specs.WellFormed.{state_checks}
use Rattle.state.proofs.Checks.{take-state}
use Rattle.occurrences.specs.Index.{index_of}
use Rattle.occurrences.specs.RowWords.{replaced_sets}
use Rattle.occurrences.proofs.ReplacedRow.{replaced-index}
use Rattle.tally.specs.Tallies.{count_rows, unmet, unsatisfied_rows}
use Rattle.indexed.specs.Entries.{indexed_checks}
use Rattle.indexed.proofs.Checks.{Kept, kept}
use Rattle.late.specs.declared.Condition.{Condition}
use Rattle.late.specs.Replacement.{condition_checks, late_checks, replaced_in, tables_after}
use Rattle.late.proofs.Rows.{owned-number, rows_replaced}
use Rattle.late.proofs.Checks.{Fitting, condition_parts, condition_decides}
use Rattle.late_indexed.specs.OldRow.{old_row}
use Rattle.late_indexed.specs.Replacement.{replace_checks, tables_then, index_then, number_then}

-- ---- rows counted again

module _ (p : Row → Bool) where
  -- one row in the place of another
  count_set : (rows : List Row) (i : ℕ) (new : Row) → i < length rows
      → count_rows p (set rows i new) + digit (p (get_or rows i empty)) ≡ count_rows p rows + digit (p new)
  unfolding count_rows
  count_set [] i new h = absurd (not-suc-le-zero h)
  count_set (x ∷ xs) zero new h = omega arith
  count_set (x ∷ xs) (suc i) new h = omega (arith, count_set xs i new (le_of_suc-le-suc h))

  -- no more than there are
  count_most : (rows : List Row) → count_rows p rows ≤ length rows
  unfolding count_rows
  count_most [] = omega arith
  count_most (x ∷ xs) = omega (arith, count_most xs, digit_lt (p x))

-- padding is satisfied
padding-met : (n : ℕ) (r : Row) (t f : ℕ) → padding n r ≡ true → satisfied n r t f ≡ true
unfolding satisfied
padding-met n r t f e = rw e

-- in the place of a padding row
number-set : (n : ℕ) (rows : List Row) (i : ℕ) (new : Row) (t f : ℕ) → i < length rows → padding n (get_or rows i empty) ≡ true
    → unsatisfied_rows n (set rows i new) t f ≡ unsatisfied_rows n rows t f + digit (unmet n t f new)
unfolding unsatisfied_rows
number-set n rows i new t f h e =
    let z : digit (unmet n t f (get_or rows i empty)) ≡ 0 = ap (λ (b : Bool). digit (not b)) (padding-met n (get_or rows i empty) t f e) in
    omega (arith, count_set (unmet n t f) rows i new h)

-- ---- the old row

module _ (d : Dimensions) (left right : List ℕ) (number : ℕ) where
  pub old_left : ltb 0 number && leb number d.left ≡ true → row_at left (number - 1) ≡ old_row d left right number
  unfolding old_row
  old_left e = rw e

  module _ (not_left : ltb 0 number && leb number d.left ≡ false) where
    pub old_right : ltb d.left number && leb number (d.left + d.right) ≡ true → row_at right (number - 1 - d.left) ≡ old_row d left right number
    unfolding old_row
    old_right e = rw (not_left, e)

    pub old_none : ltb d.left number && leb number (d.left + d.right) ≡ false → empty ≡ old_row d left right number
    unfolding old_row
    old_none e = rw (not_left, e)

-- of a station's own number it is the tables' row
old_is : (d : Dimensions) (tables : Tables) (number : ℕ) → 0 < number → number ≤ d.left + d.right
    → old_row d tables.left tables.right number ≡ get_or (rows_of d tables) (number - 1) empty
unfolding old_row
old_is d tables number least most =
    on (leb number d.left)
    (λ e. let h = leb-true number d.left e in rw (lt-ltb 0 number least, e) (sym (left-row d tables (number - 1) (omega arith))))
    (λ e.
    let h = leb-false number d.left e in
    let k : d.left + (number - 1 - d.left) ≡ number - 1 = omega arith in
    rw (lt-ltb 0 number least, e, lt-ltb d.left number (omega arith), le-leb number (d.left + d.right) most)
    (sym (right_row d tables (number - 1 - d.left) (omega arith)) ∙ ap (λ (i : ℕ). get_or (rows_of d tables) i empty) k))

-- ---- the checks in order

module _ (d : Dimensions) (tables : Tables) (index : List ℕ) (run : Run) (number : ℕ) (c : Condition) where
  abbrev rows : List Row
  rows = rows_of d tables

  abbrev asked : List Check
  asked = indexed_checks d.n rows index run number

  abbrev judged : Outcome
  judged = outcome (replace_checks d tables index run number c)

  -- what a refusal leaves
  pub all-kept : (r : Refusal) → Err r ≡ judged
      → (number ≡ number_then d tables index run number c) × (tables ≡ tables_then d tables index run number c)
      × (index ≡ index_then d tables index run number c)
  unfolding tables_then index_then number_then
  all-kept r e = let z : judged ≡ Err r = sym e in (rw z, rw z, rw z)

  -- 1, 2, 4, 3, 12 and 13 decide first
  pub first-refused : (r : Refusal) → Err r ≡ outcome (table_checks d tables ++ asked) → Err r ≡ judged
  first-refused r e =
      let checks = condition_checks d tables run c in
      sym (ap outcome (sym (append_assoc (table_checks d tables) asked checks)) ∙ outcome-refused (table_checks d tables ++ asked) checks r (sym e))

  module _ (e : outcome (table_checks d tables ++ asked) ≡ Ok tt) where
    pub tables-taken : outcome (table_checks d tables) ≡ Ok tt
    tables-taken = (outcome_parts (table_checks d tables) asked e).0

    asked-taken : outcome asked ≡ Ok tt
    asked-taken = (outcome_parts (table_checks d tables) asked e).1

    exact : Kept d.n run (same index (index_of rows)) (eqb number (unsatisfied_rows d.n rows run.t run.f))
    exact = kept d.n run (same index (index_of rows)) (eqb number (unsatisfied_rows d.n rows run.t run.f)) asked-taken

    index_is : index ≡ index_of rows
    index_is = same_true index (index_of rows) exact.sets

    number_is : number ≡ unsatisfied_rows d.n rows run.t run.f
    number_is = eqb-true number (unsatisfied_rows d.n rows run.t run.f) exact.number

    state-taken : outcome (state_checks d run) ≡ Ok tt
    state-taken = sym (take-state d run exact.formed exact.same-n)

    -- so there is room for one more
    pub number-few : number ≤ 384
    unfolding unsatisfied_rows
    number-few =
        omega (arith, number_is, count_most (unmet d.n run.t run.f) rows, tables-length d tables, (accepted d tables tables-taken).size.rows-most)

    -- then the condition decides, with index and number or without
    pub decided-alike : outcome (late_checks d tables run c) ≡ judged
    decided-alike =
        condition_decides d tables run c tables-taken (state_checks d run) state-taken
        ∙ sym (condition_decides d tables run c tables-taken asked asked-taken)

    -- the tables are those of the condition without index and number
    pub tables-alike : tables_after d tables run c ≡ tables_then d tables index run number c
    unfolding tables_after tables_then
    tables-alike = ap (λ (o : Outcome). given o (replaced_in d tables c) (λ r. tables)) decided-alike

    module _ (taken : outcome (late_checks d tables run c) ≡ Ok tt) where
      fitting : Fitting d tables run c
      fitting = condition_parts d tables run c (sym (condition_decides d tables run c tables-taken (state_checks d run) state-taken) ∙ taken)

      pub row_number : (0 < c.replaced) × (c.replaced ≤ d.left + d.right)
      row_number = owned-number d c.station c.replaced fitting.owned

      place : c.replaced - 1 < length rows
      place = omega (arith, row_number.0, row_number.1, tables-length d tables)

      rows_then : set rows (c.replaced - 1) c.row ≡ rows_of d (replaced_in d tables c)
      rows_then = sym (rows_replaced d tables c tables-taken fitting.owned)

      -- the sets from both rows
      pub index-then : (old : Row) → old ≡ old_row d tables.left tables.right c.replaced
          → replaced_sets index (c.replaced - 1) old c.row ≡ index_then d tables index run number c
      unfolding index_then
      index-then old q =
          ap₂ (λ (x : List ℕ) (r : Row). replaced_sets x (c.replaced - 1) r c.row) index_is
          (q ∙ old_is d tables c.replaced row_number.0 row_number.1)
          ∙ replaced-index rows (c.replaced - 1) c.row place
          ∙ ap index_of rows_then ∙ rw (sym decided-alike ∙ taken)

      -- the number from the new one
      pub number-after : number + digit (unmet 32 run.t run.f c.row) ≡ number_then d tables index run number c
      unfolding number_then
      number-after =
          let n = d.n in
          ap₂ (λ (k : ℕ) (b : Bool). k + digit (not b)) number_is
          (satisfied_width n 32 c.row run.t run.f (accepted d tables tables-taken).size.n-most (low-positive n c.row fitting.low)
          (low-negative n c.row fitting.low))
          ∙ sym (number-set n rows (c.replaced - 1) c.row run.t run.f place fitting.padded)
          ∙ ap (λ (rs : List Row). unsatisfied_rows n rs run.t run.f) rows_then ∙ rw (sym decided-alike ∙ taken)
