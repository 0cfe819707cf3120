-- A run with its tally: what the loop knows of them is what the plain run's loop knows, and that the tally is exact.
use mathlib.Core.Path.{◌≡◌, refl, sym, ap, ◌∙◌, subst⁻¹}
use mathlib.Core.Bool.{true, false}
use mathlib.Core.List.{List}
use Prim.Native.Nat.{ℕ, ◌+◌}
use lib.Dec.{ltb}
use lib.ListN.{length}
use Rattle.words.specs.declared.Row.{Row}
use Rattle.tables.specs.Rows.{rows_from}
use Rattle.state.specs.declared.Run.{Run}
use Rattle.state.specs.State.{State, state_of, run_of, if_open}
use Rattle.state.specs.WellFormed.{well_formed}
use Rattle.state.proofs.HeldRun.{run-back, formed_run_e, formed_tidy}
use Rattle.solver.specs.Step.{always, step}
use Rattle.solver.specs.Entries.{Ran, run_from}
use Rattle.solver.proofs.BudgetedRun.{Running, running_from, running_on, running_done}
use Rattle.tally.specs.declared.Tally.{Tally}
use Rattle.tally.specs.Tallies.{tally_of}
use Rattle.indexed.specs.declared.tallied.TalliedRun.{TalliedRun}
use Rattle.indexed.specs.declared.tallied.Reached.{Reached}
use Rattle.indexed.specs.Tallied.{Indexed, Exact, tallied_of, reached_by}

-- the rows of a run of n
pub of_run : (n : ℕ) (words : List ℕ) (m : ℕ) (index : List ℕ) → Indexed n words m index → (run : Run) → run.n ≡ n → Indexed run.n words m index
of_run n words m index x run e = subst⁻¹ (λ (k : ℕ). Indexed k words m index) e x

module _ (n : ℕ) (rows : List Row) (times : ℕ) (start : State) where
  pub record Kept (held : TalliedRun) (count : ℕ) : Type 0 where
    pub running : Running n rows times start held.run count
    pub exact : held.tally ≡ tally_of rows held.run.t held.run.f

  module _ (held : TalliedRun) (count : ℕ) (o : Kept held count) where
    pub kept_on : if_open held.run.standing (ltb count times) false ≡ true
        → (next : TalliedRun) → next ≡ tallied_of held.run.n rows (step held.run.n rows (state_of held.run)) → Kept next (count + 1)
    unfolding run_of
    kept_on h next e =
        let q : next ≡ tallied_of n rows (step n rows (state_of held.run)) =
        e ∙ ap (λ (x : ℕ). tallied_of x rows (step x rows (state_of held.run))) o.running.same in
        record {
          running = running_on n rows times start held.run count o.running h next.run (ap (λ (x : TalliedRun). x.run) q);
          exact = ap (λ (x : TalliedRun). x.tally) q ∙ sym (ap (λ (x : TalliedRun). tally_of rows x.run.t x.run.f) q);
        }

    -- where the loop ends, run and count are what the steps reach
    pub kept_end : if_open held.run.standing (ltb count times) false ≡ false
        → ◌≡◌ {A = Reached} (record { run = held.run; steps = count }) (reached_by n (run_from n (always rows) times start))
    kept_end h =
        ap (λ (r : Run). record { run = r; steps = count }) o.running.tidy
        ∙ ap (λ (r : Ran). reached_by n r) (running_done n rows times start held.run count o.running h)

-- at the loop's start, of a well-formed run with 32 places for levels
pub kept_from : (rows : List Row) (times : ℕ) (run : Run) → well_formed run ≡ true → length run.levels ≡ 32
    → (tally : Tally) → tally ≡ tally_of rows run.t run.f → Kept run.n rows times (state_of run) (record { run = run; tally = tally }) 0
kept_from rows times run formed room tally q = record {
  running = running_from run.n rows times run refl formed (run-back run (formed_tidy run room (formed_run_e run formed)));
  exact = q;
}

-- what a step asks
pub kept_ready : (n : ℕ) (words : List ℕ) (m : ℕ) (index : List ℕ) → Indexed n words m index → (times : ℕ) (start : State) (held : TalliedRun) (count : ℕ)
    → Kept n (rows_from words 0 m) times start held count → Indexed held.run.n words m index × Exact (rows_from words 0 m) held
kept_ready n words m index x times start held count o =
    (of_run n words m index x held.run o.running.same, record { formed = o.running.formed; exact = o.exact })
