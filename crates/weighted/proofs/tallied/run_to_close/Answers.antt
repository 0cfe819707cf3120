-- `run_to_close` meets its contract. The loop's invariant is that of every loop of weighted steps, and that the tally is exact; the measure is how many
-- steps are left.
use mathlib.Core.Path.{◌≡◌, sym, ap, ◌∙◌}
use mathlib.Core.Bool.{true, false}
use Prim.Native.Nat.{◌<◌}
use native.Mathlib.Omega.{arith}
use lib.Dec.{ltb}
use lib.ListN.{length}
use Rattle.state.specs.State.{if_open}
use Rattle.solver.proofs.BudgetedRun.{running_less-with}
use Rattle.indexed.proofs.TallyAfter.{survey_exact}
use Rattle.indexed.specs.Continuing.{Continued, steps_taken}
use Rattle.weighted.specs.Weights.{weighted_rule}
use Rattle.weighted.proofs.Applying.{weighted_applies}
use Rattle.weighted.proofs.KeptRun.{kept_from, kept_on, kept_end}
use Rattle.weighted.proofs.tallied.run_to_close.Goals as goal
use Rattle.weighted.proofs.tallied.run_to_close.Goals.{After-find_rule-rule, Start}

-- a run has 32 levels
room : (s : Start) → length s.args.run.now.levels ≡ 32
room s = omega arith

-- the loop's turn goes on, from the rule found
goes : (c : After-find_rule-rule) → let l = c.loop-tally in
    if_open l.last.standing (ltb l.steps c.args.times) false ≡ true
goes c = sym c.goes_on.ensures ∙ c.loop-tally-test.true

-- so a step is left
less : (c : After-find_rule-rule) → c.loop-tally.steps < c.args.times
less c =
    let l = c.loop-tally in
    running_less-with weighted_rule weighted_applies _ _ _ _ l.last l.steps l.invariant.running (goes c)

pub loop-tally-init : goal.loop-tally-init
loop-tally-init c =
    kept_from _ _ _ c.requires.run_value (room (goal.at.loop-tally-init c).Start) _
    (c.survey-tally.ensures ∙ survey_exact _ _ _ _ c.requires.indexed _ _ (omega arith) (omega arith))

pub overflow_add-steps : goal.overflow_add-steps
overflow_add-steps c = record { fits = omega (arith, less (goal.at.overflow_add-steps c).After-find_rule-rule) }

pub loop-tally-smaller : goal.loop-tally-smaller
loop-tally-smaller c = omega (arith, less (goal.at.loop-tally-smaller c).After-find_rule-rule)

pub loop-tally-preserved : goal.loop-tally-preserved
loop-tally-preserved c =
    kept_on _ _ _ _ c.requires.indexed _ _ c.loop-tally.last c.loop-tally.tally _ c.loop-tally.invariant
    (goes (goal.at.loop-tally-preserved c).After-find_rule-rule) _ c.find_rule-rule.ensures
    _ c.follow-next.ensures _ c.after_rule-tally.ensures

pub returns : goal.returns
returns c =
    let is = kept_end _ _ _ _ c.requires.indexed _ _ c.loop-tally.last c.loop-tally.tally _ c.loop-tally.invariant
    (sym c.goes_on.ensures ∙ c.loop-tally-test.false) _ c.closed.ensures in
    record { value = ap steps_taken is; run_after = ap (λ (c : Continued). c.run) is }
