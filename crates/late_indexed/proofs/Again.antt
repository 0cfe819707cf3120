-- After a replacement that is taken, index and number as they are handed on are those of the new tables: so the next step over them is taken and gives the
-- plain step's run, and the next late condition is judged as without them. From the checks that the first one passed.
use mathlib.Core.Path.{◌≡◌, sym, ap, ◌∙◌}
use mathlib.Core.List.{List, ◌++◌}
use Prim.Native.Nat.{ℕ}
use lib.Dec.{eqb}
use borrow.Author.Tests.{eq-eqb}
use Rattle.std.specs.Prelude.{Ok}
use Rattle.refusals.specs.Numbers.{Outcome}
use Rattle.refusals.specs.Checks.{Check, outcome, given}
use Rattle.refusals.proofs.Outcomes.{outcome-taken, outcome_parts}
use Rattle.words.specs.declared.Row.{Row}
use Rattle.words.specs.Sameness.{same}
use Rattle.words.proofs.Sameness.{same_self}
use Rattle.dimensions.specs.declared.Dimensions.{Dimensions}
use Rattle.tables.specs.Tables.{Tables}
use Rattle.tables.specs.Rows.{rows_of}
use Rattle.tables.specs.Acceptance.{table_checks}
use Rattle.state.specs.declared.Run.{Run}
use Rattle.occurrences.specs.Index.{index_of}
use Rattle.tally.specs.Tallies.{unsatisfied_rows}
use Rattle.indexed.specs.Entries.{indexed_checks, stepped_by, stepped_indexed}
use Rattle.indexed.specs.SameState.{SameState}
use Rattle.indexed.proofs.Checks.{Kept, kept, take-kept}
use Rattle.indexed.proofs.SameState.{same-state}
use Rattle.late.specs.declared.Condition.{Condition}
use Rattle.late.specs.Replacement.{condition_checks, late_checks, replaced_in}
use Rattle.late.proofs.Rows.{accepted_still}
use Rattle.late.proofs.Checks.{condition_parts}
use Rattle.late_indexed.specs.Replacement.{replace_checks, tables_then, index_then, number_then}
use Rattle.late_indexed.proofs.Replacing.{decided-alike}

module _ (d : Dimensions) (tables : Tables) (index : List ℕ) (run : Run) (number : ℕ) (c : Condition)
    (taken : outcome (replace_checks d tables index run number c) ≡ Ok tt) where
  -- what the call hands on
  abbrev pub tables' : Tables
  tables' = tables_then d tables index run number c

  abbrev pub index' : List ℕ
  index' = index_then d tables index run number c

  abbrev pub number' : ℕ
  number' = number_then d tables index run number c

  abbrev pub rows' : List Row
  rows' = rows_of d tables'

  abbrev asked : List Check
  asked = indexed_checks d.n (rows_of d tables) index run number

  first : outcome (table_checks d tables) ≡ Ok tt
  first = (outcome_parts (table_checks d tables) (asked ++ condition_checks d tables run c) taken).0

  behind : (outcome asked ≡ Ok tt) × (outcome (condition_checks d tables run c) ≡ Ok tt)
  behind = outcome_parts asked (condition_checks d tables run c) (outcome_parts (table_checks d tables) (asked ++ condition_checks d tables run c) taken).1

  run-kept : Kept d.n run (same index (index_of (rows_of d tables))) (eqb number (unsatisfied_rows d.n (rows_of d tables) run.t run.f))
  run-kept = kept d.n run _ _ behind.0

  -- ---- they are those of the new tables

  tables_are : tables' ≡ replaced_in d tables c
  unfolding tables_then
  tables_are = ap (λ (o : Outcome). given o (replaced_in d tables c) (λ r. tables)) taken

  index_are : index' ≡ index_of rows'
  unfolding index_then
  index_are =
      ap (λ (o : Outcome). given o (index_of (rows_of d (replaced_in d tables c))) (λ r. index)) taken
      ∙ ap (λ (t : Tables). index_of (rows_of d t)) (sym tables_are)

  number_are : number' ≡ unsatisfied_rows d.n rows' run.t run.f
  unfolding number_then
  number_are =
      ap (λ (o : Outcome). given o (unsatisfied_rows d.n (rows_of d (replaced_in d tables c)) run.t run.f) (λ r. number)) taken
      ∙ ap (λ (t : Tables). unsatisfied_rows d.n (rows_of d t) run.t run.f) (sym tables_are)

  -- ---- so neither 1 to 4 nor 12 nor 13 is met

  abbrev asked' : List Check
  asked' = indexed_checks d.n rows' index' run number'

  accepted' : outcome (table_checks d tables') ≡ Ok tt
  accepted' =
      ap (λ (t : Tables). outcome (table_checks d t)) tables_are ∙ accepted_still d tables c first (condition_parts d tables run c behind.1).low

  kept' : outcome asked' ≡ Ok tt
  kept' =
      sym (take-kept d.n run (same index' (index_of rows')) _ run-kept.formed
      (ap (λ (x : List ℕ). same x (index_of rows')) index_are ∙ same_self (index_of rows')) (eq-eqb number' _ number_are) run-kept.same-n)

  all' : outcome (table_checks d tables' ++ asked') ≡ Ok tt
  all' = outcome-taken (table_checks d tables') asked' accepted' ∙ kept'

  -- the next step is taken
  pub replaced_again : (stepped_indexed d tables' index' run number').outcome ≡ Ok tt
  unfolding stepped_indexed
  replaced_again = ap (λ (o : Outcome). (stepped_by o d.n rows' run number').outcome) all'

  -- and it gives the plain step's run over the new tables, that run's number, and both are taken again
  pub replaced-state : SameState d tables' index' run (stepped_indexed d tables' index' run number')
  replaced-state = same-state d tables' index' run number' replaced_again

  -- the next late condition meets none of them either: it is judged by itself, as without index and number
  pub replaced-judged : (c' : Condition) → outcome (replace_checks d tables' index' run number' c') ≡ outcome (condition_checks d tables' run c')
  replaced-judged c' =
      outcome-taken (table_checks d tables') (asked' ++ condition_checks d tables' run c') accepted'
      ∙ outcome-taken asked' (condition_checks d tables' run c') kept'

  -- the outcome is that of the plain call
  pub replaced-alike : (c' : Condition) → outcome (replace_checks d tables' index' run number' c') ≡ outcome (late_checks d tables' run c')
  replaced-alike c' = sym (decided-alike d tables' index' run number' c' all')
