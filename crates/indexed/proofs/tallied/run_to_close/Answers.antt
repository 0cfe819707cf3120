-- `run_to_close` meets its contract. The loop's invariant is that of the plain run, and that the tally is exact; the measure is how many steps are left.
use mathlib.Core.Path.{◌≡◌, sym, ◌∙◌}
use lib.ListN.{length}
use native.Mathlib.Omega.{arith}
use Rattle.solver.proofs.BudgetedRun.{running_less}
use Rattle.indexed.proofs.TallyAfter.{survey_exact}
use Rattle.indexed.proofs.Running.{kept_from, kept_ready, kept_on, kept_end}
use Rattle.indexed.proofs.tallied.run_to_close.Goals as goal
use Rattle.indexed.proofs.tallied.run_to_close.Goals.{Start}

-- a run has 32 levels
room : (s : Start) → length s.args.run.levels ≡ 32
room s = s.well_formed.1.1.1.1.0.1.1.1.1.1.1.1.0.1.0.1

pub loop-held-init : goal.loop-held-init
loop-held-init c =
    kept_from _ _ _ c.requires.run_value (room (goal.at.loop-held-init c).Start) _
    (c.survey-tally.ensures ∙ survey_exact _ _ _ _ c.requires.indexed _ _ (omega arith) (omega arith))

pub advance-held-requires : goal.advance-held-requires
advance-held-requires c =
    let proved = kept_ready _ _ _ _ c.requires.indexed _ _ _ _ c.loop-held.invariant in
    record { indexed = proved.0; exact = proved.1 }

pub overflow_add-steps : goal.overflow_add-steps
overflow_add-steps c =
    record { fits = omega (arith, running_less _ _ _ _ _ _ c.loop-held.invariant.running (sym c.goes_on.ensures ∙ c.loop-held-test.true)) }

pub loop-held-smaller : goal.loop-held-smaller
loop-held-smaller c =
    omega (arith, running_less _ _ _ _ _ _ c.loop-held.invariant.running (sym c.goes_on.ensures ∙ c.loop-held-test.true))

pub loop-held-preserved : goal.loop-held-preserved
loop-held-preserved c =
    kept_on _ _ _ _ _ _ c.loop-held.invariant (sym c.goes_on.ensures ∙ c.loop-held-test.true) _ c.advance-held.ensures

pub returns : goal.returns
returns c =
    kept_end _ _ _ _ _ _ c.loop-held.invariant (sym c.goes_on.ensures ∙ c.loop-held-test.false)
