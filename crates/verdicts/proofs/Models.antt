-- What `verdict_of` and `model` give: the verdict by the standing; each refusal and the model compute from the run's two checks, in order.
use mathlib.Core.Path.{◌≡◌, refl, sym, ap, ap₂, ◌∙◌}
use mathlib.Core.Bool.{Bool, true, false, not, cond}
use mathlib.Core.List.{List, [], ◌∷◌}
use Prim.Native.Nat.{ℕ}
use Rattle.std.specs.Prelude.{Result, Ok, Err}
use Rattle.refusals.specs.declared.Refusal.{Refusal}
use Rattle.refusals.specs.Checks.{check, outcome, given}
use Rattle.refusals.specs.Numbers.{said}
use Rattle.refusals.proofs.Outcomes.{given-said}
use Rattle.refusals.specs.declared.Refusal.TheVariants.{NoModel}
use Rattle.refusals.specs.declared.Refusal.TheVariants as refusal
use Rattle.state.specs.declared.Run.{Run}
use Rattle.state.specs.declared.Standing.{Standing}
use Rattle.state.specs.declared.Standing.TheVariants.{Open, Satisfied, Refuted}
use Rattle.state.specs.State.{is_satisfied, standing_number}
use Rattle.state.specs.WellFormed.{well_formed}
use Rattle.verdicts.specs.declared.Verdict.{Verdict}
use Rattle.verdicts.specs.Verdicts.{verdict_of, verdict_number, model_word, model_checks, model_of, model_code, model_numbers}

-- what is given says its number and its values
pub with-verdict : (st : Standing) (t : ℕ) (r : Verdict) → r ≡ verdict_of st t
    → (r ≡ verdict_of st t) × (verdict_number r ∷ (model_word r ∷ []) ≡ standing_number st ∷ (cond (is_satisfied st) t 0 ∷ []))
with-verdict st t r e = (e, ap (λ (x : Verdict). verdict_number x ∷ (model_word x ∷ [])) e ∙ go st)
  where
    go : (s : Standing) → verdict_number (verdict_of s t) ∷ (model_word (verdict_of s t) ∷ []) ≡ standing_number s ∷ (cond (is_satisfied s) t 0 ∷ [])
    go Open = refl
    go Satisfied = refl
    go Refuted = refl

pub with-model : (run : Run) (r : Result ℕ Refusal) → r ≡ model_of run → (r ≡ model_of run)
    × (model_code r ∷ model_numbers r ≡ said (outcome (model_checks run)) (run.t ∷ []))
unfolding model_of
with-model run r e =
    let says : Result ℕ Refusal → List ℕ = λ x. model_code x ∷ model_numbers x in
    (e, ap says e ∙ given-said says (outcome (model_checks run)) (Ok run.t) Err _ refl (λ q. refl))

module _ (run : Run) where
  pub model_unformed : well_formed run ≡ false → Err refusal.State ≡ model_of run
  unfolding model_of
  model_unformed e = rw e

  module _ (w : well_formed run ≡ true) where
    model_as : (st : Standing) → run.standing ≡ st → given (outcome (check (not (is_satisfied st)) NoModel ∷ [])) (Ok run.t)
        Err ≡ model_of run
    unfolding model_of
    model_as st e = sym (ap₂
        (λ (a : Bool) (x : Standing). given (outcome (check (not a) refusal.State ∷ check (not (is_satisfied x)) NoModel ∷ []))
        (Ok run.t) Err)
        w e)

    pub model-satisfied : run.standing ≡ Satisfied → Ok run.t ≡ model_of run
    model-satisfied e = model_as Satisfied e

    pub model_open : run.standing ≡ Open → Err NoModel ≡ model_of run
    model_open e = model_as Open e

    pub model-refuted : run.standing ≡ Refuted → Err NoModel ≡ model_of run
    model-refuted e = model_as Refuted e
