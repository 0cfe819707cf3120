-- What the entries give: each computes from the outcome of its checks, which decide in order.
use mathlib.Core.Path.{◌≡◌, refl, sym, ap, ap₂, ◌∙◌}
use mathlib.Core.Bool.{true}
use mathlib.Core.List.{List, [], ◌∷◌, ◌++◌}
use Prim.Native.Nat.{ℕ}
use Rattle.std.specs.Prelude.{Result, Ok, Err}
use Rattle.refusals.specs.Checks.{outcome, given}
use Rattle.refusals.specs.Numbers.{Outcome, code_of, said}
use Rattle.refusals.specs.declared.Refusal.{Refusal}
use Rattle.refusals.proofs.Outcomes.{outcome-taken, outcome-refused, refused-taken, given-said}
use Rattle.tables.specs.Tables.{Tables}
use Rattle.tables.specs.Acceptance.{table_checks}
use Rattle.tables.specs.Rows.{rows_of}
use Rattle.dimensions.specs.declared.Dimensions.{Dimensions}
use Rattle.solver.specs.declared.Answer.{Answer}
use Rattle.state.specs.declared.Run.{Run}
use Rattle.state.specs.State.{state_of, run_of}
use Rattle.scan.specs.Rules.{rule}
use Rattle.solver.specs.Step.{Ruling, step_with, step, always}
use Rattle.solver.specs.Entries.{
  Stepped,
  answer_with,
  answer_of,
  answer_numbers,
  stepped_with,
  stepped,
  solved_with,
  solved,
  solved_code,
  solved_numbers,
}
use Rattle.state.specs.WellFormed.{well_formed, state_checks}
use Rattle.state.proofs.Checks.{state_formed, state-same}

-- ---- the checks of tables and run

module _ (d : Dimensions) (tables : Tables) (run : Run) where
  -- what the tables are refused with, tables and run together are refused with
  pub refuse_tables : (r : Refusal) → Err r ≡ outcome (table_checks d tables) → Err r ≡ outcome (table_checks d tables ++ state_checks d run)
  refuse_tables r e = sym (outcome-refused (table_checks d tables) (state_checks d run) r (sym e))

  -- where the tables are taken, the checks of the run decide
  pub state_decides : (Ok tt) ≡ outcome (table_checks d tables) → outcome (state_checks d run) ≡ outcome (table_checks d tables ++ state_checks d run)
  state_decides e = sym (outcome-taken (table_checks d tables) (state_checks d run) (sym e))

  -- the tables are accepted, and the run passes its checks
  pub record Passed : Type 0 where
    pub taken : outcome (table_checks d tables) ≡ Ok tt
    pub formed : well_formed run ≡ true
    pub same : run.n ≡ d.n

  -- where tables and run are taken together, the tables are accepted and the run is well-formed and of their n
  pub passed : (o : Outcome) → o ≡ outcome (table_checks d tables ++ state_checks d run) → o ≡ Ok tt → Passed
  passed o f t = go (outcome (table_checks d tables)) refl
    where
      e : (Ok tt) ≡ outcome (table_checks d tables ++ state_checks d run)
      e = sym t ∙ f

      go : (o : Outcome) → outcome (table_checks d tables) ≡ o → Passed
      go (Ok _) q =
          let s : outcome (state_checks d run) ≡ Ok tt = state_decides (sym q) ∙ sym e in
          record {
            taken = q;
            formed = state_formed d run s;
            same = state-same d run s;
          }
      go (Err r) q = absurd (refused-taken (refuse_tables r (sym q) ∙ sym e))

-- ---- the step's entry, by any ruling

module _ (ruling : Ruling) (d : Dimensions) (tables : Tables) (run : Run) where
  -- where tables and run are taken, the step's entry gives that outcome and the run of the state after the step
  pub step-taken-with : (o : Outcome) → o ≡ outcome (table_checks d tables ++ state_checks d run) → o ≡ Ok tt
      → (r : Run) → r ≡ run_of d.n (step_with ruling d.n (rows_of d tables) (state_of run))
      → ◌≡◌ {A = Stepped} (record { outcome = o; run = r }) (stepped_with ruling d tables run)
  unfolding stepped_with
  step-taken-with o e t r q = ap₂ (λ (x : Outcome) (y : Run). record { outcome = x; run = y }) t q
      ∙ ap (λ (x : Outcome). given x (record { outcome = Ok tt; run = run_of d.n (step_with ruling d.n (rows_of d tables) (state_of run)) })
      (λ y. record { outcome = Err y; run = run })) (sym t ∙ e)

  -- what tables and run are refused with, the step's entry is refused with, and leaves the run
  pub step-refused-with : (o : Outcome) → o ≡ outcome (table_checks d tables ++ state_checks d run) → (r : Refusal) → o ≡ Err r
      → ◌≡◌ {A = Stepped} (record { outcome = o; run = run }) (stepped_with ruling d tables run)
  unfolding stepped_with
  step-refused-with o e r t = ap (λ (x : Outcome). record { outcome = x; run = run }) t
      ∙ ap (λ (x : Outcome). given x (record { outcome = Ok tt; run = run_of d.n (step_with ruling d.n (rows_of d tables) (state_of run)) })
      (λ y. record { outcome = Err y; run = run })) (sym t ∙ e)

  -- what the step's entry gives: its outcome, its run and the number of its outcome
  pub step-said-with : {r : Stepped} → r ≡ stepped_with ruling d tables run
      → (r.outcome ≡ (stepped_with ruling d tables run).outcome) × (r.run ≡ (stepped_with ruling d tables run).run)
      × (code_of r.outcome ∷ [] ≡ said (outcome (table_checks d tables ++ state_checks d run)) [])
  unfolding stepped_with
  step-said-with e =
      let says : Stepped → List ℕ = λ x. code_of x.outcome ∷ [] in
      let next : Stepped = record { outcome = Ok tt; run = run_of d.n (step_with ruling d.n (rows_of d tables) (state_of run)) } in
      let refused : Refusal → Stepped = λ y. record { outcome = Err y; run = run } in (
        ap (λ (x : Stepped). x.outcome) e,
        ap (λ (x : Stepped). x.run) e,
        ap says e ∙ given-said says (outcome (table_checks d tables ++ state_checks d run)) next refused [] refl (λ q. refl),
      )

-- ---- the budgeted run's entry, by any ruling

module _ (ruling : Ruling) (d : Dimensions) (tables : Tables) (budget : ℕ) where
  solve_as : (o : Outcome) → o ≡ outcome (table_checks d tables) → given o (Ok (answer_with ruling d.n (always (rows_of d tables)) budget))
      Err ≡ solved_with ruling d tables budget
  unfolding solved_with
  solve_as o e = ap (λ (x : Outcome). given x (Ok (answer_with ruling d.n (always (rows_of d tables)) budget)) Err) e

  -- where the tables are taken, the budgeted run's entry gives the answer over their rows
  pub solve-taken-with : (Ok tt) ≡ outcome (table_checks d tables) → (a : Answer) → a ≡ answer_with ruling d.n (always (rows_of d tables)) budget
      → Ok a ≡ solved_with ruling d tables budget
  solve-taken-with e a q = ap Ok q ∙ solve_as (Ok tt) e

  -- what the tables are refused with, the budgeted run's entry is refused with
  pub solve-refused-with : (r : Refusal) → Err r ≡ outcome (table_checks d tables) → Err r ≡ solved_with ruling d tables budget
  solve-refused-with r e = solve_as (Err r) e

  -- what is given says its number and its values
  pub said-with : (r : Result Answer Refusal) → r ≡ solved_with ruling d tables budget
      → (r ≡ solved_with ruling d tables budget)
      × (solved_code r ∷ solved_numbers r ≡ said (outcome (table_checks d tables)) (answer_numbers (answer_with ruling d.n (always (rows_of d tables)) budget)))
  unfolding solved_with
  said-with r e =
      let says : Result Answer Refusal → List ℕ = λ x. solved_code x ∷ solved_numbers x in (
        e,
        ap says e ∙ given-said says (outcome (table_checks d tables)) (Ok (answer_with ruling d.n (always (rows_of d tables)) budget))
            Err _ refl (λ q. refl),
      )

-- ---- by giant steps

module _ (d : Dimensions) (tables : Tables) (run : Run) where
  -- where tables and run are taken, the step's entry gives that outcome and the run of the state after the giant step
  pub step-taken : (o : Outcome) → o ≡ outcome (table_checks d tables ++ state_checks d run) → o ≡ Ok tt
      → (r : Run) → r ≡ run_of d.n (step d.n (rows_of d tables) (state_of run))
      → ◌≡◌ {A = Stepped} (record { outcome = o; run = r }) (stepped d tables run)
  unfolding stepped
  step-taken = step-taken-with rule d tables run

  pub step-refused : (o : Outcome) → o ≡ outcome (table_checks d tables ++ state_checks d run) → (r : Refusal) → o ≡ Err r
      → ◌≡◌ {A = Stepped} (record { outcome = o; run = run }) (stepped d tables run)
  unfolding stepped
  step-refused = step-refused-with rule d tables run

  -- what the step's entry gives: its outcome, its run and the number of its outcome
  pub step-said : {r : Stepped} → r ≡ stepped d tables run
      → (r.outcome ≡ (stepped d tables run).outcome) × (r.run ≡ (stepped d tables run).run)
      × (code_of r.outcome ∷ [] ≡ said (outcome (table_checks d tables ++ state_checks d run)) [])
  unfolding stepped
  step-said = step-said-with rule d tables run

module _ (d : Dimensions) (tables : Tables) (budget : ℕ) where
  -- where the tables are taken, the budgeted run's entry gives the answer over their rows
  pub solve-taken : (Ok tt) ≡ outcome (table_checks d tables) → (a : Answer) → a ≡ answer_of d.n (always (rows_of d tables)) budget
      → Ok a ≡ solved d tables budget
  unfolding solved
  solve-taken = solve-taken-with rule d tables budget

  -- what the tables are refused with, the budgeted run's entry is refused with
  pub solve-refused : (r : Refusal) → Err r ≡ outcome (table_checks d tables) → Err r ≡ solved d tables budget
  unfolding solved
  solve-refused = solve-refused-with rule d tables budget

  -- what is given says its number and its values
  pub with-said : (r : Result Answer Refusal) → r ≡ solved d tables budget
      → (r ≡ solved d tables budget)
      × (solved_code r ∷ solved_numbers r ≡ said (outcome (table_checks d tables)) (answer_numbers (answer_of d.n (always (rows_of d tables)) budget)))
  unfolding solved
  with-said = said-with rule d tables budget
