-- The budgeted run against the states after k steps: what it counts and where it ends. By induction on the steps.
use mathlib.Core.Path.{◌≡◌, refl, ap}
use mathlib.Core.List.{List}
use Prim.Native.Nat.{ℕ, zero, suc, ◌≤◌, ◌<◌, zero-le, suc-le-suc}
use native.Mathlib.Nat.{not-suc-le-zero, le_of_suc-le-suc}
use native.Mathlib.Omega.{arith}
use Rattle.words.specs.declared.Row.{Row}
use Rattle.state.specs.declared.Standing.{Standing}
use Rattle.state.specs.declared.Standing.TheVariants.{Open, Satisfied, Refuted}
use Rattle.state.specs.State.{State}
use Rattle.scan.specs.Rules.{rule}
use Rattle.solver.specs.Step.{Ruling, step_with, later, after_with, after}
use Rattle.solver.specs.Entries.{Ran, run_with, run_from}

-- what a run with this budget is, over the states after each number of steps
pub record RunOver (states : ℕ → State) (budget : ℕ) (r : Ran) : Type 0 where
  pub most : r.steps ≤ budget
  pub final-after : r.final ≡ states r.steps
  pub open_before : (k : ℕ) → k < r.steps → (states k).standing ≡ Open
  pub open_whole : r.final.standing ≡ Open → r.steps ≡ budget

-- what a run from s by giant steps is
abbrev pub RunOf : ℕ → (ℕ → List Row) → ℕ → State → Ran → Type 0
RunOf n rows budget s r = RunOver (λ k. after n rows k s) budget r

module _ (ruling : Ruling) (n : ℕ) where
  abbrev By : (ℕ → List Row) → ℕ → State → Ran → Type 0
  By rows budget s r = RunOver (λ k. after_with ruling n rows k s) budget r

  -- a closed state is the end
  ended : (rows : ℕ → List Row) (budget : ℕ) (s : State) → (s.standing ≡ Open → ⊥) → By rows budget s (record { steps = 0; final = s })
  unfolding after_with
  ended rows budget s h = record {
    most = zero-le;
    final-after = refl;
    open_before = λ k b. absurd (not-suc-le-zero b);
    open_whole = λ e. absurd (h e);
  }

  -- one step more from an open state
  goes_on : (rows : ℕ → List Row) (budget : ℕ) (s : State) → s.standing ≡ Open → (r : Ran) → By (later rows) budget (step_with ruling n (rows 0) s) r
      → By rows (suc budget) s (record { steps = suc r.steps; final = r.final })
  unfolding after_with
  goes_on rows budget s e r w = record {
    most = suc-le-suc w.most;
    final-after = w.final-after;
    open_before = before;
    open_whole = λ h. ap suc (w.open_whole h);
  }
    where
      before : (k : ℕ) → k < suc r.steps → (after_with ruling n rows k s).standing ≡ Open
      before zero b = e
      before (suc k) b = w.open_before k (le_of_suc-le-suc b)

  -- the budgeted run counts the least number of steps, at most the budget, that closes it, else the budget, and ends in the state after so many
  pub run_of_with : (rows : ℕ → List Row) (budget : ℕ) (s : State) → RunOver (λ k. after_with ruling n rows k s) budget (run_with ruling n rows budget s)
  unfolding run_with after_with
  run_of_with rows zero s = record { most = zero-le; final-after = refl; open_before = λ k b. absurd (not-suc-le-zero b); open_whole = λ e. refl }
  run_of_with rows (suc budget) s =
      go (run_with ruling n (later rows) budget (step_with ruling n (rows 0) s)) (run_of_with (later rows) budget (step_with ruling n (rows 0) s))
      s.standing refl
    where
      go : (r : Ran) → By (later rows) budget (step_with ruling n (rows 0) s) r → (st : Standing) → s.standing ≡ st → By rows (suc budget) s (elim st [
        | Open ↦ record { steps = suc r.steps; final = r.final }
        | Satisfied ↦ record { steps = 0; final = s }
        | Refuted ↦ record { steps = 0; final = s }
      ])
      go r w Open e = goes_on rows budget s e r w
      go r w Satisfied e = ended rows (suc budget) s (λ h. let z : ◌≡◌ {A = ℕ} 0 1 = cc in omega arith)
      go r w Refuted e = ended rows (suc budget) s (λ h. let z : ◌≡◌ {A = ℕ} 0 1 = cc in omega arith)

-- and so does the run by giant steps
pub run_is_of : (n : ℕ) (rows : ℕ → List Row) (budget : ℕ) (s : State) → RunOf n rows budget s (run_from n rows budget s)
unfolding run_from after
run_is_of = run_of_with rule
