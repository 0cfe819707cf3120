-- How many steps each run takes at most: document 02, "Fewer variables, fewer steps". `most_steps` is 2 ^ (k + 1) - 1, where k counts the
-- variables that occur in some row that is no padding, in the tables as they are at the close.
-- Ask: Which rows count for k, and the tables of which time?
use Rattle.std.specs.Prelude.{ℕ, suc, ◌-◌, ◌^◌, ◌≤◌, ◌≡◌, true, List, length, Ok}
use Rattle.words.specs.declared.Row.{Row}
use Rattle.dimensions.specs.declared.Dimensions.{Dimensions}
use Rattle.tables.specs.Tables.{Tables}
use Rattle.tables.specs.Rows.{rows_of}
use Rattle.state.specs.declared.Run.{Run}
use Rattle.state.specs.declared.Standing.TheVariants.{Open}
use Rattle.verdicts.specs.declared.Verdict.TheVariants.{Unknown}
use Rattle.solver.specs.declared.Answer.{Answer}
use Rattle.solver.specs.Entries.{solved_with, solved}
use Rattle.truth.specs.Truth.{occurring}
use Rattle.demand2.specs.Demand2.{at_end, most_steps}
use Rattle.weighted.specs.Weights.{weighted_rule}
use Rattle.repeats.specs.Repeats.{Attempt, repeats_ended, long_ones}
use Rattle.whole_budget.specs.WholeBudget.{solved_whole}
use Rattle.demand3.specs.Demand3.{history_of, answer_for, answer_in}
use Rattle.late_runs.specs.Schedule.{Dated, tables_at, rows_at}
use Rattle.late_runs.specs.Host.{Action, steps_of}
use Rattle.bounds.specs.CountingHost.{HostCall, play_counting, started_counting, steps_asked}
use Rattle.bounds.specs.IndexedHost.{play_indexed, started_indexed}

-- ---- from the fresh run, under a budget

-- an answer, by the rows at its close
pub record Bounded (n : ℕ) (rows : List Row) (budget : ℕ) (answer : Answer) : Type 0 where
  -- at most `most_steps` steps
  pub most : answer.count ≤ most_steps n rows
  -- and a budget of that size closes the run
  pub enough : most_steps n rows ≤ budget → answer.verdict ≡ Unknown → ⊥
  -- with k = 0 one step does
  pub one : occurring n rows ≡ 0 → 1 ≤ budget → (answer.count ≡ 1) × (answer.verdict ≡ Unknown → ⊥)

-- what each entry answers over tables that stay as they are
pub record Bounds (d : Dimensions) (tables : Tables) (budget : ℕ) : Type 0 where
  -- `solve` and `solve_indexed`, whose contracts are the same
  pub plain : (answer : Answer) → solved d tables budget ≡ Ok answer → Bounded d.n (rows_of d tables) budget answer
  -- `solve_weighted`
  pub weighted : (answer : Answer) → solved_with weighted_rule d tables budget ≡ Ok answer → Bounded d.n (rows_of d tables) budget answer
  -- `solve_whole` goes on through its budget, and is closed by then if that is large enough
  pub whole : (gates bytes wires : List ℕ) (answer : Answer) → solved_whole d tables budget gates bytes wires ≡ Ok answer
      → (answer.count ≡ budget) × (most_steps d.n (rows_of d tables) ≤ budget → answer.verdict ≡ Unknown → ⊥)
  -- k is at most n, so that the bound by n follows
  pub by_n : most_steps d.n (rows_of d tables) ≤ 2 ^ suc d.n - 1

-- ---- the circuit's repeats over late conditions, whatever the attempts: demand 3's history

-- 2 ^ (k + 1) - 1 by the rows at the plain run's close
abbrev pub most_repeats : Dimensions → Tables → List Dated → ℕ → ℕ
most_repeats d tables conditions budget =
    most_steps d.n (at_end (rows_at d tables conditions) (answer_for d (tables_at d tables conditions) budget))

pub record CircuitBounds (d : Dimensions) (tables : Tables) (conditions : List Dated) (budget : ℕ) (attempts : List Attempt) : Type 0 where
  -- there are at most `most_repeats`
  pub most : length (history_of d (tables_at d tables conditions) budget attempts) ≤ most_repeats d tables conditions budget
  -- and as many attempts that are long enough end them
  pub enough : most_repeats d tables conditions budget ≤ long_ones d attempts
      → repeats_ended budget (history_of d (tables_at d tables conditions) budget attempts) ≡ true
  -- once ended they give an answer within the bound
  pub answer : let h = history_of d (tables_at d tables conditions) budget attempts in
      repeats_ended budget h ≡ true → Bounded d.n (at_end (rows_at d tables conditions) (answer_in d.n h)) budget (answer_in d.n h)

-- ---- a host's calls, in any order, late conditions among them

-- steps asked for and steps counted, by the tables that the host holds: once its run is closed no call changes them, so that they are those
-- at the close
pub record HostBounded (d : Dimensions) (asked count : ℕ) (tables : Tables) (run : Run) : Type 0 where
  pub most : count ≤ most_steps d.n (rows_of d tables)
  pub enough : most_steps d.n (rows_of d tables) ≤ asked → run.standing ≡ Open → ⊥

-- steps, the run continued in slices, and the circuit repeated, plain and weighted
abbrev pub HostBounds : Dimensions → Tables → List HostCall → Type 0
HostBounds d tables calls =
    let h = play_counting d (started_counting d tables) calls in HostBounded d (steps_asked d calls) h.count h.tables h.run

-- steps with an index and a number beside the run
abbrev pub IndexedBounds : Dimensions → Tables → List Action → Type 0
IndexedBounds d tables actions =
    let h = play_indexed d (started_indexed d tables) actions in HostBounded d (steps_of actions) h.count h.tables h.run
