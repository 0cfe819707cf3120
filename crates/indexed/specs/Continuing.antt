-- A run that is continued: document 01's budgeted run from any state that a host holds.
-- Ask: Are the steps at most those asked for, and none once the run is closed?
use Rattle.solver.specs.declared.Answer.{Answer}
use Rattle.std.specs.Prelude.{ℕ, ◌+◌, ◌≡◌, Bool, true, false, List, [], ◌∷◌, ◌++◌, Result, Ok, Err}
use Rattle.refusals.specs.Checks.{outcome, given}
use Rattle.refusals.specs.Numbers.{Outcome, code_of}
use Rattle.refusals.specs.declared.Refusal.{Refusal}
use Rattle.words.specs.Booleans.{digit}
use Rattle.dimensions.specs.declared.Dimensions.{Dimensions}
use Rattle.tables.specs.Tables.{Tables}
use Rattle.tables.specs.Rows.{rows_of}
use Rattle.tables.specs.Acceptance.{table_checks}
use Rattle.state.specs.declared.Run.{Run}
use Rattle.state.specs.State.{state_of, run_of, if_open}
use Rattle.state.specs.WellFormed.{state_checks}
use Rattle.verdicts.specs.Verdicts.{verdict_of}
use Rattle.scan.specs.Rules.{rule}
use Rattle.solver.specs.Step.{Ruling, always}
use Rattle.solver.specs.Entries.{Ran, run_with, run_from}
use Rattle.indexed.specs.declared.StepsTaken.{StepsTaken}

-- ---- the call

-- what continuing is met by, the run then, how many steps and whether it is closed; refused, the run as it was, with no step
pub record Continued : Type 0 where
  pub outcome : Outcome
  pub run : Run
  pub steps : ℕ
  pub closed : Bool

-- the run that some steps lead to, how many they are, and whether it is closed: satisfied or refuted
abbrev pub continued_by : ℕ → Ran → Continued
continued_by n r = record { outcome = Ok tt; run = run_of n r.final; steps = r.steps; closed = if_open r.final.standing false true }

-- refused, the run as it was, with no step
abbrev pub not_continued : Run → Refusal → Continued
not_continued run r = record { outcome = Err r; run = run; steps = 0; closed = false }

-- steps by a ruling through the one that closes the run, at most a given number: 1, 2, 4, 3, 12, 13
unfoldable pub continued_with : Ruling → Dimensions → Tables → ℕ → Run → Continued
unfolding run_with run_of
continued_with ruling d tables times run =
    given (outcome (table_checks d tables ++ state_checks d run))
    (continued_by d.n (run_with ruling d.n (always (rows_of d tables)) times (state_of run))) (not_continued run)

-- by giant steps
unfoldable pub continued : Dimensions → Tables → ℕ → Run → Continued
unfolding continued_with run_from
continued = continued_with rule

-- what a call returns that leaves the run in place: its steps and whether it is closed, or the refusal
abbrev pub steps_taken : Continued → Result StepsTaken Refusal
steps_taken c = given c.outcome (Ok (record { steps = c.steps; closed = c.closed })) Err

-- ---- its numbers

-- what continuing returns: 0, or the refusal's number
abbrev pub continued_code : Continued → ℕ
continued_code c = code_of c.outcome

-- how many steps, and 1 if the run is closed then, else 0
abbrev pub ran_numbers : Ran → List ℕ
ran_numbers r = r.steps ∷ (digit (if_open r.final.standing false true) ∷ [])

-- those of the call; none where it is refused
abbrev pub continued_numbers : Continued → List ℕ
continued_numbers c = given c.outcome (c.steps ∷ (digit c.closed ∷ [])) (λ r. [])

-- outcome and numbers of what is returned
abbrev pub taken_outcome : Result StepsTaken Refusal → Outcome
taken_outcome (Ok s) = Ok tt
taken_outcome (Err r) = Err r

abbrev pub taken_numbers : Result StepsTaken Refusal → List ℕ
taken_numbers (Ok s) = s.steps ∷ (digit s.closed ∷ [])
taken_numbers (Err r) = []

-- ---- what a host may rely on

-- a run continued, then continued once more, beside the run continued as often at once: refused alike, else the same run by as many steps
pub record Resumes (first second whole : Continued) : Type 0 where
  pub outcome : second.outcome ≡ whole.outcome
  pub run : second.run ≡ whole.run
  pub steps : first.steps + second.steps ≡ whole.steps
  pub closed : second.closed ≡ whole.closed

-- count, verdict and model of a run continued from the fresh one; or the refusal
abbrev pub solved_by : Continued → Result Answer Refusal
solved_by c = given c.outcome (Ok (record { count = c.steps; verdict = verdict_of c.run.standing c.run.t })) Err
