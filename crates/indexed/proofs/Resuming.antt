-- A run continued and continued again, and a run continued from the fresh one: from the laws of the budgeted run, since a run that steps reach passes its
-- checks again.
use mathlib.Core.Path.{◌≡◌, refl, sym, ap, ap₂, ◌∙◌}
use mathlib.Core.Bool.{true}
use mathlib.Core.List.{List, ◌++◌}
use Prim.Native.Nat.{ℕ, ◌+◌}
use Rattle.std.specs.Prelude.{Ok, Err}
use Rattle.refusals.specs.Numbers.{Outcome}
use Rattle.refusals.specs.Checks.{outcome, given}
use Rattle.refusals.proofs.Outcomes.{outcome-taken, outcome-refused}
use Rattle.words.specs.declared.Row.{Row}
use Rattle.dimensions.specs.declared.Dimensions.{Dimensions}
use Rattle.tables.specs.Tables.{Tables}
use Rattle.tables.specs.Rows.{rows_of}
use Rattle.tables.specs.Acceptance.{table_checks}
use Rattle.tables.proofs.Accepted.{accepted}
use Rattle.state.specs.declared.Run.{Run}
use Rattle.state.specs.State.{State, state_of, run_of, fresh}
use Rattle.state.specs.WellFormed.{well_formed_state, state_checks}
use Rattle.state.proofs.WellFormedLaws.{formed_e, formed_i}
use Rattle.state.proofs.HeldRun.{state-back, run_of_formed, formed_run_e}
use Rattle.state.proofs.Checks.{take-state}
use Rattle.solver.specs.Step.{always}
use Rattle.solver.specs.Entries.{Ran, run_from, answer_of, solved}
use Rattle.solver.proofs.StepLaws.{fresh-well_formed, after_formed}
use Rattle.solver.proofs.RunLaws.{run_is_of}
use Rattle.solver.proofs.BudgetedRun.{run_resumes}
use Rattle.solver.proofs.Entries.{passed}
use Rattle.indexed.specs.Continuing.{Continued, continued_by, not_continued, continued, Resumes, solved_by}

module _ (d : Dimensions) (tables : Tables) where
  abbrev rows : List Row
  rows = rows_of d tables

  abbrev checked : Run → Outcome
  checked run = outcome (table_checks d tables ++ state_checks d run)

  abbrev ran : ℕ → State → Ran
  ran times s = run_from d.n (always rows) times s

  -- by an outcome of the checks
  by-outcome : (times : ℕ) (run : Run) (o : Outcome) → checked run ≡ o
      → continued d tables times run ≡ given o (continued_by d.n (ran times (state_of run))) (not_continued run)
  unfolding continued
  by-outcome times run o e = ap (λ (x : Outcome). given x (continued_by d.n (ran times (state_of run))) (not_continued run)) e

  -- the run of a well-formed state passes the checks of accepted tables
  passes : outcome (table_checks d tables) ≡ Ok tt → (s : State) → well_formed_state d.n s ≡ true → checked (run_of d.n s) ≡ Ok tt
  unfolding run_of
  passes acc s w =
      let size = (accepted d tables acc).size in
      outcome-taken (table_checks d tables) (state_checks d (run_of d.n s)) acc
      ∙ sym (take-state d (run_of d.n s) (run_of_formed d.n s size.n_least size.n-most w) refl)

  -- the run of a well-formed state, continued
  pub state-continued : outcome (table_checks d tables) ≡ Ok tt → (times : ℕ) (s : State) → well_formed_state d.n s ≡ true
      → continued d tables times (run_of d.n s) ≡ continued_by d.n (ran times s)
  state-continued acc times s w =
      by-outcome times (run_of d.n s) (Ok tt) (passes acc s w) ∙ ap (λ (x : State). continued_by d.n (ran times x)) (state-back d.n s)

  -- ---- a times and then b times

  module _ (a b : ℕ) (run : Run) where
    -- what the first a steps reach
    abbrev r : Ran
    r = ran a (state_of run)

    -- what b more reach
    abbrev q : Ran
    q = ran b r.final

    next-passes : checked run ≡ Ok tt → checked (run_of d.n r.final) ≡ Ok tt
    next-passes e =
        let p = passed d tables run (Ok tt) (sym e) refl in
        let w : well_formed_state d.n (state_of run) ≡ true =
        ap (λ (x : ℕ). well_formed_state x (state_of run)) (sym p.same) ∙ (formed_run_e run p.formed).state in
        passes p.taken r.final
        (ap (well_formed_state d.n) (run_is_of d.n (always rows) a (state_of run)).final-after
        ∙ formed_i d.n _ (after_formed d.n (always rows) r.steps (state_of run) (formed_e d.n (state_of run) w)))

    pub resumes : Resumes (continued d tables a run) (continued d tables b (continued d tables a run).run) (continued d tables (a + b) run)
    resumes = go (checked run) refl
      where
        go : (o : Outcome) → checked run ≡ o
            → Resumes (continued d tables a run) (continued d tables b (continued d tables a run).run) (continued d tables (a + b) run)
        go (Ok _) e =
            let first : continued d tables a run ≡ continued_by d.n r = by-outcome a run (Ok tt) e in
            let second : continued d tables b (continued d tables a run).run ≡ continued_by d.n q =
            ap (λ (c : Continued). continued d tables b c.run) first
            ∙ by-outcome b (run_of d.n r.final) (Ok tt) (next-passes e)
            ∙ ap (λ (s : State). continued_by d.n (ran b s)) (state-back d.n r.final) in
            let whole : continued d tables (a + b) run ≡ continued_by d.n (record { steps = r.steps + q.steps; final = q.final }) =
            by-outcome (a + b) run (Ok tt) e ∙ ap (continued_by d.n) (run_resumes d.n rows a b (state_of run)) in
            record {
              outcome = ap (λ (c : Continued). c.outcome) second ∙ sym (ap (λ (c : Continued). c.outcome) whole);
              run = ap (λ (c : Continued). c.run) second ∙ sym (ap (λ (c : Continued). c.run) whole);
              steps = ap₂ (λ (x y : Continued). x.steps + y.steps) first second ∙ sym (ap (λ (c : Continued). c.steps) whole);
              closed = ap (λ (c : Continued). c.closed) second ∙ sym (ap (λ (c : Continued). c.closed) whole);
            }
        go (Err x) e =
            let first : continued d tables a run ≡ not_continued run x = by-outcome a run (Err x) e in
            let second : continued d tables b (continued d tables a run).run ≡ not_continued run x =
            ap (λ (c : Continued). continued d tables b c.run) first ∙ by-outcome b run (Err x) e in
            let whole : continued d tables (a + b) run ≡ not_continued run x = by-outcome (a + b) run (Err x) e in
            record {
              outcome = ap (λ (c : Continued). c.outcome) (second ∙ sym whole);
              run = ap (λ (c : Continued). c.run) (second ∙ sym whole);
              steps = ap₂ (λ (x y : Continued). x.steps + y.steps) first second ∙ sym (ap (λ (c : Continued). c.steps) whole);
              closed = ap (λ (c : Continued). c.closed) (second ∙ sym whole);
            }

  -- ---- from the fresh run

  pub solves : (budget : ℕ) → solved_by (continued d tables budget (run_of d.n fresh)) ≡ solved d tables budget
  unfolding solved answer_of run_of
  solves budget = go (outcome (table_checks d tables)) refl
    where
      go : (o : Outcome) → outcome (table_checks d tables) ≡ o → solved_by (continued d tables budget (run_of d.n fresh)) ≡ solved d tables budget
      go (Ok _) e =
          ap solved_by (state-continued e budget fresh (fresh-well_formed d.n))
          ∙ sym (ap (λ (o : Outcome). given o (Ok (answer_of d.n (always rows) budget)) Err) e)
      go (Err x) e =
          ap solved_by (by-outcome budget (run_of d.n fresh) (Err x) (outcome-refused (table_checks d tables) (state_checks d (run_of d.n fresh)) x e))
          ∙ sym (ap (λ (o : Outcome). given o (Ok (answer_of d.n (always rows) budget)) Err) e)
