-- The run that repeats the circuit through a whole budget, as one statement about the generated circuit of some dimensions: history, end,
-- bound, secrecy and what a call leaves. Document 02, "The count kept secret too" and "Fewer variables, fewer steps".
-- Ask: Is there a mark in what is seen, or a premise on the count?
use Rattle.refusals.specs.declared.Refusal.{Refusal}
use Rattle.solver.specs.declared.Answer.{Answer}
use Rattle.std.specs.Prelude.{ℕ, suc, ◌≤◌, ◌<◌, min, ◌≡◌, true, List, length, get_or, Result}
use Rattle.words.specs.declared.Row.{Row}
use Rattle.dimensions.specs.declared.Dimensions.{Dimensions}
use Rattle.tables.specs.Tables.{Tables}
use Rattle.tables.specs.Rows.{rows_of_public, rows_of}
use Rattle.state.specs.declared.Run.{Run}
use Rattle.state.specs.State.{fresh, run_of, state_of}
use Rattle.verdicts.specs.declared.Verdict.{Verdict}
use Rattle.solver.specs.Step.{always, after}
use Rattle.solver.specs.Entries.{answer_of}
use Rattle.demand2.specs.Demand2.{most_steps}
use Rattle.answers.specs.Printed.{answer_text}
use Rattle.netlist.specs.Outputs.{closed}
use Rattle.repeats.specs.Repeats.{Accepts, Attempt, long_ones}
use Rattle.whole_budget.specs.Applications.{whole_runs, whole_answer_in}
use Rattle.whole_budget.specs.WholeBudget.{solved_whole, gates_after_whole, bytes_after_whole, wires_after_whole}
use Rattle.demand3.specs.Demand3.{circuit_text_of}

-- ---- history and end

-- application i, of at most the budget, returned the run of the state after i + 1 giant steps, closed or not
pub record FollowsThrough (d : Dimensions) (tables : Tables) (budget : ℕ) (runs : List Run) : Type 0 where
  pub each : (i : ℕ) (none : Run) → i < length runs
      → get_or runs i none ≡ run_of d.n (after d.n (always (rows_of d tables)) (suc i) fresh)
  pub most : length runs ≤ budget

-- the plain run's verdict under a budget, with its model
abbrev pub plain_verdict : Dimensions → Tables → ℕ → Verdict
plain_verdict d tables budget = (answer_of d.n (always (rows_of d tables)) budget).verdict

-- ---- secrecy

-- circuit text, number of applications, printed answer, public rows; no marks
abbrev pub SeenWhole : Type 0
SeenWhole = List ℕ × ℕ × List ℕ × List Row

-- what is seen of the applications that come of attempts, the answer being the one that they give
abbrev pub seen_whole : Dimensions → Tables → ℕ → List Attempt → SeenWhole
seen_whole d tables budget attempts =
    let runs = whole_runs d tables budget attempts in
    (circuit_text_of d, length runs, answer_text (min d.n 32) (whole_answer_in d.n budget runs), rows_of_public d tables)

-- what a call gives, and what it leaves in gate words, bytes and wires
abbrev pub remains : Dimensions → Tables → ℕ → List ℕ → List ℕ → List ℕ → Result Answer Refusal × List ℕ × List ℕ × List ℕ
remains d tables budget gates bytes wires = (
  solved_whole d tables budget gates bytes wires,
  gates_after_whole d tables budget gates bytes wires,
  bytes_after_whole d tables budget gates bytes wires,
  wires_after_whole d tables budget gates bytes wires,
)

-- ---- the statement, for circuits of these dimensions

pub record WholeSecrecy (d : Dimensions) : Type 0 where
  -- after every application of any list of attempts
  pub history : (tables : Tables) → Accepts d tables → (budget : ℕ) (attempts : List Attempt)
      → FollowsThrough d tables budget (whole_runs d tables budget attempts)
  -- applications as many as the budget give the budget for a count, and the plain run's verdict and model under it; and they are as many
  -- where as many attempts are long enough
  pub end : (tables : Tables) → Accepts d tables → (budget : ℕ) (attempts : List Attempt)
      → (length (whole_runs d tables budget attempts) ≡ budget
      → whole_answer_in d.n budget (whole_runs d tables budget attempts)
      ≡ record { count = budget; verdict = plain_verdict d tables budget })
      × (budget ≤ long_ones d attempts → length (whole_runs d tables budget attempts) ≡ budget)
  -- closed by then, if there are enough of them; `end` says that they go on
  pub bound : (tables : Tables) → Accepts d tables → (budget : ℕ) (attempts : List Attempt) (i : ℕ) (none : Run)
      → i < length (whole_runs d tables budget attempts) → most_steps d.n (rows_of d tables) ≤ suc i
      → closed (state_of (get_or (whole_runs d tables budget attempts) i none)) ≡ true
  -- two pairs of tables with the same public rows under one budget that agree in verdict and model, each with attempts of its own; nothing
  -- is asked of the steps after which they close
  pub secrecy : (tables tables' : Tables) → Accepts d tables → Accepts d tables' → rows_of_public d tables ≡ rows_of_public d tables'
      → (budget : ℕ) (attempts attempts' : List Attempt) → plain_verdict d tables budget ≡ plain_verdict d tables' budget
      → length (whole_runs d tables budget attempts) ≡ budget → length (whole_runs d tables' budget attempts') ≡ budget
      → seen_whole d tables budget attempts ≡ seen_whole d tables' budget attempts'
  -- and one call's result and buffers are the other's, refused or not
  pub calls : (tables tables' : Tables) → Accepts d tables → Accepts d tables' → (budget : ℕ) (gates bytes wires : List ℕ)
      → plain_verdict d tables budget ≡ plain_verdict d tables' budget
      → remains d tables budget gates bytes wires ≡ remains d tables' budget gates bytes wires
