-- What the checks of a run give, and what they say of a run that passes: the first that fails decides.
use mathlib.Core.Path.{◌≡◌}
use mathlib.Core.Bool.{true, false, not}
use lib.Dec.{eqb}
use borrow.Author.Tests.{eq-eqb, ne_eqb, eqb-true, not-false}
use Rattle.std.specs.Prelude.{Ok, Err}
use Rattle.refusals.specs.Checks.{outcome}
use Rattle.refusals.specs.declared.Refusal.TheVariants.{OtherVariables}
use Rattle.refusals.specs.declared.Refusal.TheVariants as refusal
use Rattle.refusals.proofs.Outcomes.{check_passed, checks-taken}
use Rattle.dimensions.specs.declared.Dimensions.{Dimensions}
use Rattle.state.specs.declared.Run.{Run}
use Rattle.state.specs.WellFormed.{well_formed, state_checks}

module _ (d : Dimensions) (run : Run) where
  pub refuse_state : well_formed run ≡ false → Err refusal.State ≡ outcome (state_checks d run)
  refuse_state e = rw e

  pub refuse_other : well_formed run ≡ true → (run.n ≡ d.n → ⊥) → Err OtherVariables ≡ outcome (state_checks d run)
  refuse_other e h = rw (e, ne_eqb run.n d.n h)

  -- a well-formed run with as many variables as the dimensions is taken
  pub take-state : well_formed run ≡ true → run.n ≡ d.n → Ok tt ≡ outcome (state_checks d run)
  take-state e h = rw (e, eq-eqb run.n d.n h)

  -- a run that is taken is well-formed
  pub state_formed : outcome (state_checks d run) ≡ Ok tt → well_formed run ≡ true
  state_formed e = not-false (well_formed run) (check_passed (not (well_formed run)) refusal.State _ e)

  -- a run that is taken has as many variables as the dimensions
  pub state-same : outcome (state_checks d run) ≡ Ok tt → run.n ≡ d.n
  state-same e =
      eqb-true run.n d.n (not-false (eqb run.n d.n)
      (check_passed (not (eqb run.n d.n)) OtherVariables _ (checks-taken (not (well_formed run)) refusal.State _ e)))
