-- Demands 2 and 3 over tables that change: the tables at every step are accepted and their rows grow, which is all that the demands ask.
use mathlib.Core.Path.{◌≡◌, sym, ◌∙◌}
use mathlib.Core.Bool.{true}
use mathlib.Core.List.{List}
use Prim.Native.Nat.{ℕ, ◌≤◌}
use Rattle.dimensions.specs.declared.Dimensions.{Dimensions}
use Rattle.tables.specs.Tables.{Tables}
use Rattle.tables.specs.Rows.{rows_of_public}
use Rattle.tables.proofs.Accepted.{accepted}
use Rattle.solver.specs.Entries.{answer_of}
use Rattle.truth.proofs.LowRows.{accepted-low}
use Rattle.demand2.specs.Demand2.{Demand2}
use Rattle.demand2.proofs.Demand2.{demand2_rows}
use Rattle.repeats.specs.Repeats.{Accepts, Attempt, Repeat, repeats_ended, long_ones}
use Rattle.repeats.proofs.RepeatChecks.{sizes-taken}
use Rattle.demand3.specs.Demand3.{history_of, Follows, answer_for, answer_in, seen, SamePublic, Demand3}
use Rattle.demand3.proofs.Demand3.{demand3}
use Rattle.late_runs.specs.Schedule.{Dated, tables_at, rows_at}
use Rattle.late_runs.proofs.Schedule.{tables-accepted, public_stays, rows_grow}

module _ (d : Dimensions) (tables : Tables) (acc : Accepts d tables) (conditions : List Dated) (budget : ℕ) where
  -- satisfiable and unsatisfiable concern the rows at the close, and every count is from the fresh state
  pub demand2_late : Demand2 d.n (rows_at d tables conditions) budget (answer_of d.n (rows_at d tables conditions) budget)
  demand2_late =
      demand2_rows d.n (rows_at d tables conditions) (accepted d tables acc).size.n-most
      (λ k. accepted-low d (tables_at d tables conditions k) (tables-accepted d conditions tables acc k))
      (rows_grow d conditions tables acc) budget

  circuit : Demand3 d
  circuit = demand3 d (sizes-taken d tables acc)

  module _ (attempts : List Attempt) where
    -- the repeats over these tables
    abbrev repeated : List Repeat
    repeated = history_of d (tables_at d tables conditions) budget attempts

    -- circuit and plain run side by side: each repeat returned the state after as many steps, over the same replacements
    pub history-late : Follows d (tables_at d tables conditions) budget attempts repeated
    history-late = circuit.history (tables_at d tables conditions) (tables-accepted d conditions tables acc) budget attempts

    -- repeats that have ended give the run's answer, and they end where as many attempts as it counts are long enough
    pub end_late : (repeats_ended budget repeated ≡ true → answer_in d.n repeated ≡ answer_for d (tables_at d tables conditions) budget)
        × ((answer_for d (tables_at d tables conditions) budget).count ≤ long_ones d attempts → repeats_ended budget repeated ≡ true)
    end_late = circuit.end (tables_at d tables conditions) (tables-accepted d conditions tables acc) budget attempts

module _ (d : Dimensions) (tables tables' : Tables) (acc : Accepts d tables) (acc' : Accepts d tables') (conditions conditions' : List Dated) where
  -- the same public rows to begin with are the same at every step
  public_same : rows_of_public d tables ≡ rows_of_public d tables' → SamePublic d (tables_at d tables conditions) (tables_at d tables' conditions')
  public_same e k = public_stays d conditions tables acc k ∙ e ∙ sym (public_stays d conditions' tables' acc' k)

  -- two pairs that agree in verdict, model and count are seen alike, wherever the replacements of each fell
  pub secrecy_late : rows_of_public d tables ≡ rows_of_public d tables' → (budget : ℕ) (attempts attempts' : List Attempt)
      → answer_for d (tables_at d tables conditions) budget ≡ answer_for d (tables_at d tables' conditions') budget
      → repeats_ended budget (history_of d (tables_at d tables conditions) budget attempts) ≡ true
      → repeats_ended budget (history_of d (tables_at d tables' conditions') budget attempts') ≡ true
      → seen d (tables_at d tables conditions) budget attempts ≡ seen d (tables_at d tables' conditions') budget attempts'
  secrecy_late e budget attempts attempts' =
      (demand3 d (sizes-taken d tables acc)).secrecy (tables_at d tables conditions) (tables_at d tables' conditions')
      (tables-accepted d conditions tables acc) (tables-accepted d conditions' tables' acc') (public_same e) budget attempts attempts'
