-- The budgeted run's answer, and what each entry gives: document 01, "Giant step" and "Turned back".
-- Ask: Does the count include the closing step? Names that end in With take the rule that applies as a parameter: is the name without it
-- that of `rule`?
use Rattle.refusals.specs.declared.Refusal.{Refusal}
use Rattle.std.specs.Prelude.{ℕ, zero, suc, List, [], ◌∷◌, ◌++◌, Result, Ok, Err}
use Rattle.refusals.specs.Numbers.{Outcome, number_of}
use Rattle.refusals.specs.Checks.{outcome, given}
use Rattle.words.specs.declared.Row.{Row}
use Rattle.dimensions.specs.declared.Dimensions.{Dimensions}
use Rattle.tables.specs.Tables.{Tables}
use Rattle.tables.specs.Rows.{rows_of}
use Rattle.tables.specs.Acceptance.{table_checks}
use Rattle.solver.specs.declared.Answer.{Answer}
use Rattle.state.specs.declared.Run.{Run}
use Rattle.state.specs.declared.Standing.TheVariants.{Open, Satisfied, Refuted}
use Rattle.state.specs.State.{State, fresh, state_of, run_of}
use Rattle.verdicts.specs.Verdicts.{verdict_of, verdict_number, model_word}
use Rattle.scan.specs.Rules.{rule}
use Rattle.solver.specs.Step.{Ruling, always, later, step_with, step}
use Rattle.state.specs.WellFormed.{well_formed, state_checks}

-- ---- the budgeted run

-- how many steps were taken, and the state then
pub record Ran : Type 0 where
  pub steps : ℕ
  pub final : State

-- steps through the one that closes the run, at most the budget, each over the rows as they are when it begins
unfoldable pub run_with : Ruling → ℕ → (ℕ → List Row) → ℕ → State → Ran
unfolding step_with
run_with ruling n rows zero s = record { steps = 0; final = s }
run_with ruling n rows (suc budget) s =
    elim s.standing [
      | Open ↦ let r = run_with ruling n (later rows) budget (step_with ruling n (rows 0) s) in
          record { steps = suc r.steps; final = r.final }
      | Satisfied ↦ record { steps = 0; final = s }
      | Refuted ↦ record { steps = 0; final = s }
    ]

-- by giant steps
unfoldable pub run_from : ℕ → (ℕ → List Row) → ℕ → State → Ran
unfolding run_with step
run_from = run_with rule

-- the answer of the fresh run: its count and its verdict
unfoldable pub answer_with : Ruling → ℕ → (ℕ → List Row) → ℕ → Answer
unfolding run_with
answer_with ruling n rows budget =
    let r = run_with ruling n rows budget fresh in
    record { count = r.steps; verdict = verdict_of r.final.standing r.final.t }

-- by giant steps
unfoldable pub answer_of : ℕ → (ℕ → List Row) → ℕ → Answer
unfolding answer_with run_from
answer_of = answer_with rule

-- ---- the entries

-- what the step's entry returns, and the run then
pub record Stepped : Type 0 where
  pub outcome : Outcome
  pub run : Run

-- the step's entry: 1, 2, 4, 3, 12, 13, and then the run is as it was
unfoldable pub stepped_with : Ruling → Dimensions → Tables → Run → Stepped
unfolding step_with run_of well_formed
stepped_with ruling d tables run =
    given (outcome (table_checks d tables ++ state_checks d run))
    (record { outcome = Ok tt; run = run_of d.n (step_with ruling d.n (rows_of d tables) (state_of run)) })
    (λ r. record { outcome = Err r; run = run })

-- that of the giant step
unfoldable pub stepped : Dimensions → Tables → Run → Stepped
unfolding stepped_with step
stepped = stepped_with rule

-- the budgeted run's entry: 1, 2, 4, 3
unfoldable pub solved_with : Ruling → Dimensions → Tables → ℕ → Result Answer Refusal
unfolding answer_with
solved_with ruling d tables budget = given (outcome (table_checks d tables))
    (Ok (answer_with ruling d.n (always (rows_of d tables)) budget)) Err

-- by giant steps
unfoldable pub solved : Dimensions → Tables → ℕ → Result Answer Refusal
unfolding solved_with answer_of
solved = solved_with rule

-- what the budgeted run returns: 0, or 1, 2, 3 or 4 of "Turned back because of the input"
abbrev pub solved_code : Result Answer Refusal → ℕ
solved_code (Ok answer) = 0
solved_code (Err r) = number_of r

-- "count, verdict and model"
abbrev pub answer_numbers : Answer → List ℕ
answer_numbers answer = answer.count ∷ (verdict_number answer.verdict ∷ (model_word answer.verdict ∷ []))

-- those of the answer
abbrev pub solved_numbers : Result Answer Refusal → List ℕ
solved_numbers (Ok answer) = answer_numbers answer
solved_numbers (Err r) = []
