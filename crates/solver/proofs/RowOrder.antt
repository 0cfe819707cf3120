-- Neither the giant step nor the budgeted run goes by the order of the rows: where the lists of two runs hold each other's rows at every step, the states and
-- the answer are the same. By induction on the budget.
use mathlib.Core.Path.{◌≡◌, refl, ap, ◌∙◌}
use mathlib.Core.List.{List}
use Prim.Native.Nat.{ℕ, zero, suc}
use Rattle.words.specs.declared.Row.{Row}
use Rattle.scan.specs.declared.Rule.{Rule}
use Rattle.scan.proofs.RowOrder.{SameRows, rule-same}
use Rattle.state.specs.declared.Standing.{Standing}
use Rattle.state.specs.declared.Standing.TheVariants.{Open, Satisfied, Refuted}
use Rattle.state.specs.State.{State, fresh, if_open}
use Rattle.verdicts.specs.Verdicts.{verdict_of}
use Rattle.solver.specs.Step.{follow, later, step}
use Rattle.solver.specs.Entries.{Ran, run_from, answer_of}

module _ (n : ℕ) where
  -- lists of the same rows have the same giant step
  pub step_same : (xs ys : List Row) → SameRows xs ys → (s : State) → step n xs s ≡ step n ys s
  unfolding step
  step_same xs ys same s = ap (λ (r : Rule). if_open s.standing (follow s r) s) (rule-same n s.t s.f xs ys same)

  module _ (s : State) where
    -- the run by its standing, with what a step and the later ones come to
    abbrev ran_by : Ran → Standing → Ran
    ran_by r st = elim st [
      | Open ↦ record { steps = suc r.steps; final = r.final }
      | Satisfied ↦ record { steps = 0; final = s }
      | Refuted ↦ record { steps = 0; final = s }
    ]

  -- and the same run
  pub run-same : (budget : ℕ) (rows rows' : ℕ → List Row) → ((i : ℕ) → SameRows (rows i) (rows' i)) → (s : State)
      → run_from n rows budget s ≡ run_from n rows' budget s
  unfolding run_from
  run-same zero rows rows' same s = refl
  run-same (suc budget) rows rows' same s =
      ap (λ (r : Ran). ran_by s r s.standing)
      (ap (run_from n (later rows) budget) (step_same (rows 0) (rows' 0) (same 0) s)
      ∙ run-same budget (later rows) (later rows') (λ i. same (suc i)) (step n (rows' 0) s))

  -- with the same answer
  pub answer-same : (budget : ℕ) (rows rows' : ℕ → List Row) → ((i : ℕ) → SameRows (rows i) (rows' i)) → answer_of n rows budget ≡ answer_of n rows' budget
  unfolding answer_of
  answer-same budget rows rows' same =
      ap (λ (r : Ran). record { count = r.steps; verdict = verdict_of r.final.standing r.final.t }) (run-same budget rows rows' same fresh)
