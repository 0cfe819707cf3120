-- Demand 3, as one statement about the generated circuit of some dimensions: every state, history, end, text and secrecy.
-- Ask: Is the list of attempts any list?
use Rattle.std.specs.Prelude.{ℕ, suc, ◌+◌, ◌≤◌, ◌<◌, min, ◌≡◌, Bool, true, List, length, get_or, None, Ok}
use Rattle.refusals.specs.Checks.{outcome}
use Rattle.words.specs.declared.Row.{Row}
use Rattle.dimensions.specs.declared.Dimensions.{Dimensions}
use Rattle.dimensions.specs.Sizes.{size_checks}
use Rattle.tables.specs.Tables.{Tables}
use Rattle.tables.specs.Rows.{rows_of_public, rows_of}
use Rattle.solver.specs.declared.Answer.{Answer}
use Rattle.state.specs.State.{fresh, run_of}
use Rattle.solver.specs.Step.{after}
use Rattle.verdicts.specs.Verdicts.{verdict_of}
use Rattle.solver.specs.Entries.{answer_of}
use Rattle.gates.specs.Memory.{gates_of}
use Rattle.netlist.specs.Netlist.{gates_on}
use Rattle.netlist.specs.Outputs.{CarriesOut}
use Rattle.answers.specs.Printed.{answer_text}
use Rattle.bristol.specs.Text.{circuit_text}
use Rattle.bristol.specs.Writing.{line_at, written_line, requested}
use Rattle.repeats.specs.Repeats.{Accepts, Attempt, Repeat, returned, circuit_words, marks, last_run, repeats, repeats_ended, long_ones}

-- ---- history

-- the rows at each step
abbrev pub rows_by_step : Dimensions → (ℕ → Tables) → ℕ → List Row
rows_by_step d tables = λ i. rows_of d (tables i)

-- the attempts from the fresh run on
abbrev pub history_of : Dimensions → (ℕ → Tables) → ℕ → List Attempt → List Repeat
history_of d tables budget attempts = repeats d tables budget (run_of d.n fresh) attempts

-- the budgeted run's answer
abbrev pub answer_for : Dimensions → (ℕ → Tables) → ℕ → Answer
answer_for d tables budget = answer_of d.n (rows_by_step d tables) budget

-- exactly these repeats: as many as there are long enough attempts, at most as many as the budgeted run counts, and repeat i returned the
-- state after i + 1 giant steps
pub record Follows (d : Dimensions) (tables : ℕ → Tables) (budget : ℕ) (attempts : List Attempt) (h : List Repeat) : Type 0 where
  pub number : length h ≡ min (long_ones d attempts) (answer_for d tables budget).count
  pub each : (i : ℕ) (none : Repeat) → i < length h → get_or h i none ≡ returned d.n (after d.n (rows_by_step d tables) (suc i) fresh)

-- ---- end

-- the answer that repeats give: how many marks there are, and the verdict and model of the last one's run
abbrev pub answer_in : ℕ → List Repeat → Answer
answer_in n h = let last = last_run (run_of n fresh) h in record { count = length (marks h); verdict = verdict_of last.standing last.t }

-- ---- secrecy

-- the circuit's text
abbrev pub circuit_text_of : Dimensions → List ℕ
circuit_text_of d = circuit_text d (gates_of (circuit_words d))

-- the public rows at each step
abbrev pub public_in : Dimensions → (ℕ → Tables) → ℕ → List Row
public_in d tables = λ i. rows_of_public d (tables i)

-- circuit text, number of repeats, marks, printed answer, public rows at each step
abbrev pub Seen : Type 0
Seen = List ℕ × ℕ × List Bool × List ℕ × (ℕ → List Row)

-- what is seen of the repeats, the answer being the one that they give; the public rows too, since everybody knows them
abbrev pub seen : Dimensions → (ℕ → Tables) → ℕ → List Attempt → Seen
seen d tables budget attempts =
    let h = history_of d tables budget attempts in
    (circuit_text_of d, length h, marks h, answer_text (min d.n 32) (answer_in d.n h), public_in d tables)

-- ---- the demand

-- tables of these dimensions that none of 1 to 4 refuses, at every step
abbrev pub AllAccepts : Dimensions → (ℕ → Tables) → Type 0
AllAccepts d tables = (i : ℕ) → Accepts d (tables i)

-- the same public rows at every step
abbrev pub SamePublic : Dimensions → (ℕ → Tables) → (ℕ → Tables) → Type 0
SamePublic d tables tables' = (i : ℕ) → rows_of_public d (tables i) ≡ rows_of_public d (tables' i)

-- demand 3, for circuits of these dimensions
pub record Demand3 (d : Dimensions) : Type 0 where
  -- on the packed bytes of any tables and any well-formed state the evaluator leaves those of the state after one giant step
  pub every_state : CarriesOut d (circuit_words d)
  -- after every repeat of any list of attempts
  pub history : (tables : ℕ → Tables) → AllAccepts d tables → (budget : ℕ) (attempts : List Attempt)
      → Follows d tables budget attempts (history_of d tables budget attempts)
  -- repeats that have ended give the run's answer; and they end where as many attempts as it counts are long enough
  pub end : (tables : ℕ → Tables) → AllAccepts d tables → (budget : ℕ) (attempts : List Attempt)
      → (repeats_ended budget (history_of d tables budget attempts) ≡ true
      → answer_in d.n (history_of d tables budget attempts) ≡ answer_for d tables budget)
      × ((answer_for d tables budget).count ≤ long_ones d attempts → repeats_ended budget (history_of d tables budget attempts) ≡ true)
  -- the writer, asked for line 0, 1, 2, … with room for each, puts lines that joined are the text, and says then that it has no more
  pub text : outcome (size_checks d) ≡ Ok tt
      → (lent : ℕ → List ℕ) → ((i : ℕ) → length (line_at d (circuit_words d) i) ≤ length (lent i)) → (k : ℕ) → 4 + length (gates_on d) ≤ k
      → (requested d (circuit_words d) lent 0 k ≡ circuit_text_of d) × (written_line d (circuit_words d) k (lent k) ≡ Ok None)
  -- two pairs of tables with the same public rows, wherever their replacements fell, under one budget that agree in verdict, model and
  -- count, each with attempts of its own
  pub secrecy : (tables tables' : ℕ → Tables) → AllAccepts d tables → AllAccepts d tables' → SamePublic d tables tables'
      → (budget : ℕ) (attempts attempts' : List Attempt) → answer_for d tables budget ≡ answer_for d tables' budget
      → repeats_ended budget (history_of d tables budget attempts) ≡ true
      → repeats_ended budget (history_of d tables' budget attempts') ≡ true
      → seen d tables budget attempts ≡ seen d tables' budget attempts'
