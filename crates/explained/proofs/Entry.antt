-- What the entry gives: outcome and run are the plain step's, and the outcome, that of the checks, decides what is returned.
use mathlib.Core.Path.{◌≡◌, refl, sym, ap, ◌∙◌}
use mathlib.Core.List.{◌++◌}
use Rattle.std.specs.Prelude.{Result, Ok, Err}
use Rattle.refusals.specs.Checks.{outcome, given}
use Rattle.refusals.specs.Numbers.{Outcome, said}
use Rattle.refusals.specs.declared.Refusal.{Refusal}
use Rattle.dimensions.specs.declared.Dimensions.{Dimensions}
use Rattle.tables.specs.Tables.{Tables}
use Rattle.tables.specs.Rows.{rows_of}
use Rattle.tables.specs.Acceptance.{table_checks}
use Rattle.state.specs.declared.Run.{Run}
use Rattle.state.specs.State.{state_of, run_of}
use Rattle.state.specs.WellFormed.{state_checks}
use Rattle.solver.specs.Step.{step}
use Rattle.solver.specs.Entries.{Stepped, stepped}
use Rattle.explained.specs.declared.Told.{Told}
use Rattle.explained.specs.declared.Told.TheVariants.{Nothing}
use Rattle.explained.specs.Explanation.{explanation, explained, told_of, told_numbers, explained_said}

module _ (d : Dimensions) (tables : Tables) (run : Run) where
  abbrev checked : Outcome
  checked = outcome (table_checks d tables ++ state_checks d run)

  abbrev tells : Told
  tells = explanation d.n (rows_of d tables) (state_of run)

  -- the plain step's outcome is that of its checks
  pub step-outcome : (stepped d tables run).outcome ≡ checked
  unfolding stepped
  step-outcome = go checked
    where
      go : (o : Outcome)
          → (given {A = Stepped} o (record { outcome = Ok tt; run = run_of d.n (step d.n (rows_of d tables) (state_of run)) })
          (λ r. record { outcome = Err r; run = run })).outcome ≡ o
      go (Ok _) = refl
      go (Err r) = refl

  -- by the plain step's outcome: what the step tells, or the refusal
  given-by : (o : Outcome) → given o (Ok tells) Err ≡ given o (Ok (given o tells (λ r. Nothing))) Err
  given-by (Ok _) = refl
  given-by (Err r) = refl

  said-by : (o : Outcome) → explained_said (given o (Ok tells) Err) ≡ said o (told_numbers tells)
  said-by (Ok _) = refl
  said-by (Err r) = refl

  module _ (o : Outcome) (e : o ≡ (stepped d tables run).outcome) where
    pub passed_checks : o ≡ checked
    passed_checks = e ∙ step-outcome

    module _ (next : Run) (same : next ≡ (stepped d tables run).run) where
      -- what is returned, the run then, and what is said
      abbrev pub Returned : Result Told Refusal → Type 0
      Returned x = (x ≡ told_of (explained d tables run)) × (next ≡ (explained d tables run).run) × (explained_said x ≡ said checked (told_numbers tells))

      returned : (x : Result Told Refusal) → x ≡ given o (Ok tells) Err → Returned x
      unfolding explained
      returned x q = (
        q ∙ given-by o ∙ ap (λ (y : Outcome). given y (Ok (given y tells (λ r. Nothing))) Err) e,
        same,
        ap explained_said q ∙ said-by o ∙ ap (λ (y : Outcome). said y (told_numbers tells)) passed_checks,
      )

      pub explained-taken : o ≡ Ok tt → (told : Told) → told ≡ tells → Returned (Ok told)
      explained-taken t told h = returned (Ok told) (ap Ok h ∙ ap (λ (y : Outcome). given y (Ok tells) Err) (sym t))

      pub explained-refused : (r : Refusal) → o ≡ Err r → Returned (Err r)
      explained-refused r t = returned (Err r) (ap (λ (y : Outcome). given y (Ok tells) Err) (sym t))
