-- A late condition with an index and a number of unsatisfied rows beside the run (document 02, Req 06): both are those of the tables as
-- they are afterwards.
use Rattle.std.specs.Prelude.{ℕ, List, ◌++◌}
use Rattle.refusals.specs.Numbers.{Outcome}
use Rattle.refusals.specs.Checks.{Check, outcome, given}
use Rattle.dimensions.specs.declared.Dimensions.{Dimensions}
use Rattle.tables.specs.Tables.{Tables}
use Rattle.tables.specs.Rows.{rows_of}
use Rattle.tables.specs.Acceptance.{table_checks}
use Rattle.state.specs.declared.Run.{Run}
use Rattle.occurrences.specs.Index.{index_of}
use Rattle.tally.specs.Tallies.{unsatisfied_rows}
use Rattle.indexed.specs.Entries.{indexed_checks}
use Rattle.late.specs.declared.Condition.{Condition}
use Rattle.late.specs.Replacement.{condition_checks, replaced_in}

-- 1, 2, 4, 3; 12 for run, index and number; 13, 15, 16, and 3 for the new row
abbrev pub replace_checks : Dimensions → Tables → List ℕ → Run → ℕ → Condition → List Check
replace_checks d tables index run number c =
    table_checks d tables ++ (indexed_checks d.n (rows_of d tables) index run number ++ condition_checks d tables run c)

-- the tables; refused, as they were
unfoldable pub tables_then : Dimensions → Tables → List ℕ → Run → ℕ → Condition → Tables
tables_then d tables index run number c =
    given (outcome (replace_checks d tables index run number c)) (replaced_in d tables c) (λ r. tables)

-- the sets of rows of the tables as they are then; refused, the index as it was
unfoldable pub index_then : Dimensions → Tables → List ℕ → Run → ℕ → Condition → List ℕ
index_then d tables index run number c =
    given (outcome (replace_checks d tables index run number c)) (index_of (rows_of d (replaced_in d tables c))) (λ r. index)

-- how many of those rows the run leaves unsatisfied; refused, the number as it was
unfoldable pub number_then : Dimensions → Tables → List ℕ → Run → ℕ → Condition → ℕ
number_then d tables index run number c =
    given (outcome (replace_checks d tables index run number c))
    (unsatisfied_rows d.n (rows_of d (replaced_in d tables c)) run.t run.f) (λ r. number)

-- what a replacement is met by, and the number of unsatisfied rows then; refused, the number as it was
pub record ReplacedIndexed : Type 0 where
  pub outcome : Outcome
  pub number : ℕ

-- outcome and number together
abbrev pub replaced_indexed : Dimensions → Tables → List ℕ → Run → ℕ → Condition → ReplacedIndexed
replaced_indexed d tables index run number c =
    record { outcome = outcome (replace_checks d tables index run number c); number = number_then d tables index run number c }
