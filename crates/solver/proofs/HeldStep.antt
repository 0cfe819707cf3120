-- The step of a run is the run of its state's step: `rules::follow` gives it of an open run, and a closed one stays.
use mathlib.Core.Path.{◌≡◌, sym, ap, ap₂, ◌∙◌, subst⁻¹}
use mathlib.Core.Bool.{true}
use mathlib.Core.List.{List}
use Prim.Native.Nat.{ℕ}
use native.Mathlib.Omega.{arith}
use lib.ListN.{length}
use Rattle.words.specs.declared.Row.{Row}
use Rattle.scan.specs.declared.Rule.{Rule}
use Rattle.state.specs.declared.Run.{Run}
use Rattle.state.specs.declared.Standing.{Standing}
use Rattle.state.specs.declared.Standing.TheVariants.{Open, Satisfied, Refuted}
use Rattle.scan.specs.Rules.{rule}
use Rattle.state.specs.State.{state_of, run_of, if_open}
use Rattle.solver.specs.Step.{follow, Ruling, step_with, step}
use Rattle.state.specs.WellFormed.{well_formed, well_formed_state}
use Rattle.rules.specs.Followed.{followed}
use Rattle.solver.proofs.HeldRules.{Fits, held}
use Rattle.truth.proofs.RuleLaws.{Ruled, Applies, ruled, unit_settable, choice_settable}
use Rattle.solver.proofs.StepLaws.{settable_depth, step-well_formed_with}
use Rattle.state.proofs.WellFormedLaws.{formed_e}
use Rattle.state.proofs.HeldRun.{length-levels, run-back, formed_run_e, formed_tidy, run_of_formed}

module _ (n : ℕ) (rows : List Row) (run : Run) (same : run.n ≡ n) (w : well_formed run ≡ true) where
  low : well_formed_state n (state_of run) ≡ true
  low = ap (λ (x : ℕ). well_formed_state x (state_of run)) (sym same) ∙ (formed_run_e run w).state

  -- a rule that applies sets one of the run's variables, and of a choice's there is one more than levels
  pub fits_ruled : (found : Rule) → Ruled n rows run.t run.f found → Fits run found
  fits_ruled found a = record {
    unit-low = λ v positive q. omega (arith, (unit_settable n rows run.t run.f (rw q at a)).low, (formed_run_e run w).most, same);
    choice-low = λ v q. omega (arith, (choice_settable n rows run.t run.f (rw q at a)).low, (formed_run_e run w).most, same);
    choice-room = λ v q. omega (
      arith,
      settable_depth n rows (state_of run) v (formed_e n (state_of run) low) (choice_settable n rows run.t run.f (rw q at a)),
      length-levels run.depth run.levels,
      (formed_run_e run w).most,
      same,
    );
  }

-- ---- by a ruling whose rule applies

module _ (ruling : Ruling) (applies : Applies ruling) (n : ℕ) (rows : List Row) (run : Run) (same : run.n ≡ n) where
  stepped_as : (st : Standing) → run.standing ≡ st
      → step_with ruling n rows (state_of run) ≡ if_open st (follow (state_of run) (ruling n rows run.t run.f)) (state_of run)
  unfolding step_with
  stepped_as st e = ap (λ (x : Standing). if_open x (follow (state_of run) (ruling n rows run.t run.f)) (state_of run)) e

  module _ (w : well_formed run ≡ true) where
    stays : length run.levels ≡ 32 → step_with ruling n rows (state_of run) ≡ state_of run → run ≡ run_of n (step_with ruling n rows (state_of run))
    stays room e = run-back run (formed_tidy run room (formed_run_e run w)) ∙ ap₂ run_of same (sym e)

    -- a well-formed satisfied run with 32 places for levels is itself the run after the step
    pub satisfied_stays_with : length run.levels ≡ 32 → run.standing ≡ Satisfied → run ≡ run_of n (step_with ruling n rows (state_of run))
    satisfied_stays_with room o = stays room (stepped_as Satisfied o)

    -- a well-formed refuted run with 32 places for levels is itself the run after the step
    pub refuted_stays_with : length run.levels ≡ 32 → run.standing ≡ Refuted → run ≡ run_of n (step_with ruling n rows (state_of run))
    refuted_stays_with room o = stays room (stepped_as Refuted o)

    -- what the rule found makes of an open run is the step
    pub open_step-with : (found : Rule) → found ≡ ruling n rows run.t run.f → length run.levels ≡ 32 → run.standing ≡ Open
        → followed run found ≡ run_of n (step_with ruling n rows (state_of run))
    open_step-with found e room o =
        held run room w found (fits_ruled n rows run same w found
        (subst⁻¹ (λ (k : Rule). Ruled n rows run.t run.f k) e (applies n rows run.t run.f)))
        ∙ ap₂ run_of same (ap (λ (x : Rule). follow (state_of run) x) e ∙ sym (stepped_as Open o))

    -- the run after the step is well-formed
    pub step_formed_run-with : well_formed (run_of n (step_with ruling n rows (state_of run))) ≡ true
    step_formed_run-with =
        let o = formed_run_e run w in
        run_of_formed n (step_with ruling n rows (state_of run)) (omega (arith, o.least, same)) (omega (arith, o.most, same))
        (step-well_formed_with ruling applies n rows (state_of run) (low n rows run same w))

-- ---- by giant steps

module _ (n : ℕ) (rows : List Row) (run : Run) (same : run.n ≡ n) (w : well_formed run ≡ true) where
  -- a well-formed satisfied run with 32 places for levels is itself the run after the giant step
  pub satisfied_stays : length run.levels ≡ 32 → run.standing ≡ Satisfied → run ≡ run_of n (step n rows (state_of run))
  unfolding step
  satisfied_stays = satisfied_stays_with rule ruled n rows run same w

  -- a well-formed refuted run with 32 places for levels is itself the run after the giant step
  pub refuted_stays : length run.levels ≡ 32 → run.standing ≡ Refuted → run ≡ run_of n (step n rows (state_of run))
  unfolding step
  refuted_stays = refuted_stays_with rule ruled n rows run same w

  -- found is the rule that applies
  module _ (found : Rule) (e : found ≡ rule n rows run.t run.f) where
    -- it sets one of the run's variables, and of a choice's there is one more than levels
    pub fits : Fits run found
    fits = fits_ruled n rows run same w found (subst⁻¹ (λ (k : Rule). Ruled n rows run.t run.f k) e (ruled n rows run.t run.f))

    -- what it makes of an open run is the giant step
    pub open_step : length run.levels ≡ 32 → run.standing ≡ Open → followed run found ≡ run_of n (step n rows (state_of run))
    unfolding step
    open_step = open_step-with rule ruled n rows run same w found e

  -- the run after the giant step is well-formed
  pub step_formed_run : well_formed (run_of n (step n rows (state_of run))) ≡ true
  unfolding step
  step_formed_run = step_formed_run-with rule ruled n rows run same w
