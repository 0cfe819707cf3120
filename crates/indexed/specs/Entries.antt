-- What each entry of the indexed run gives: document 02, "Which rows does a variable touch".
-- Ask: Does the run with an index cite the same `step` and `solved`?
use Rattle.refusals.specs.declared.Refusal.{Refusal}
use Rattle.std.specs.Prelude.{ℕ, not, List, [], ◌∷◌, ◌++◌, eqb, Result, Ok, Err}
use Rattle.refusals.specs.Numbers.{Outcome, number_of}
use Rattle.refusals.specs.Checks.{Check, check, outcome, given}
use Rattle.refusals.specs.declared.Refusal.TheVariants.{OtherVariables}
use Rattle.refusals.specs.declared.Refusal.TheVariants as refusal
use Rattle.words.specs.declared.Row.{Row}
use Rattle.words.specs.Sameness.{same}
use Rattle.dimensions.specs.declared.Dimensions.{Dimensions}
use Rattle.tables.specs.Tables.{Tables}
use Rattle.tables.specs.Rows.{rows_of}
use Rattle.tables.specs.Acceptance.{table_checks}
use Rattle.state.specs.declared.Run.{Run}
use Rattle.state.specs.State.{state_of, run_of}
use Rattle.state.specs.WellFormed.{well_formed, state_checks}
use Rattle.solver.specs.Step.{step}
use Rattle.occurrences.specs.Index.{index_of}
use Rattle.tally.specs.Tallies.{unsatisfied_rows}

-- ---- the index

-- the sets of the tables' rows; refused, the index as it was
unfoldable pub index_after : Dimensions → Tables → List ℕ → List ℕ
index_after d tables index = given (outcome (table_checks d tables)) (index_of (rows_of d tables)) (λ r. index)

-- ---- the number

-- the rows unsatisfied under the run's T and F, whatever its standing: 1, 2, 4, 3, 12, 13
unfoldable pub counted : Dimensions → Tables → Run → Result ℕ Refusal
counted d tables run =
    given (outcome (table_checks d tables ++ state_checks d run))
    (Ok (unsatisfied_rows d.n (rows_of d tables) run.t run.f)) Err

-- what counting returns: 0, or the refusal's number
abbrev pub counted_code : Result ℕ Refusal → ℕ
counted_code (Ok number) = 0
counted_code (Err r) = number_of r

-- the number of unsatisfied rows
abbrev pub counted_numbers : Result ℕ Refusal → List ℕ
counted_numbers (Ok number) = number ∷ []
counted_numbers (Err r) = []

-- ---- the step

-- what the step is met by, the run after it and its number of unsatisfied rows; refused, both as they were
pub record SteppedIndexed : Type 0 where
  pub outcome : Outcome
  pub run : Run
  pub number : ℕ

-- 12: the run is not well-formed, the index is not exactly the rows' sets, the number is not the run's; then 13
abbrev pub indexed_checks : ℕ → List Row → List ℕ → Run → ℕ → List Check
indexed_checks n rows index run number =
    check (not (well_formed run)) refusal.State
    ∷ check (not (same index (index_of rows))) refusal.State
    ∷ check (not (eqb number (unsatisfied_rows n rows run.t run.f))) refusal.State
    ∷ check (not (eqb run.n n)) OtherVariables
    ∷ []

-- the number of unsatisfied rows after the step
abbrev pub number_after : ℕ → List Row → Run → ℕ
number_after n rows run = let next = step n rows (state_of run) in unsatisfied_rows n rows next.t next.f

-- the run after the step with its number; refused, both as they were
abbrev pub stepped_by : Outcome → ℕ → List Row → Run → ℕ → SteppedIndexed
stepped_by o n rows run number =
    given o
    (record { outcome = Ok tt; run = run_of n (step n rows (state_of run)); number = number_after n rows run })
    (λ r. record { outcome = Err r; run = run; number = number })

-- the step's entry: 1, 2, 4, 3, 12, 13
unfoldable pub stepped_indexed : Dimensions → Tables → List ℕ → Run → ℕ → SteppedIndexed
stepped_indexed d tables index run number =
    let rows = rows_of d tables in
    stepped_by (outcome (table_checks d tables ++ indexed_checks d.n rows index run number)) d.n rows run number

-- 0 and one number, or a refusal's and another
abbrev pub said_or : Outcome → ℕ → ℕ → List ℕ
said_or o number other = given o (0 ∷ (number ∷ [])) (λ r. number_of r ∷ (other ∷ []))
