-- `check_state` meets its contract: a check that fails decides.
use mathlib.Core.Path.{sym, ◌∙◌}
use Rattle.refusals.proofs.Outcomes.{outcome-said}
use Rattle.state.proofs.Checks.{refuse_state, refuse_other, take-state}
use Rattle.state.proofs.check_state.Goals as goal

pub returns-then-not-well_formed : goal.returns-then-not-well_formed
returns-then-not-well_formed c =
    let proved = outcome-said (refuse_state c.args.d c.args.run (sym c.well_formed-2.ensures ∙ c.if-not-well_formed.true)) in
    record { value = proved.0; result_value = proved.1 }

pub returns-then-run-d : goal.returns-then-run-d
returns-then-run-d c =
    let proved = outcome-said (refuse_other c.args.d c.args.run (sym c.well_formed-2.ensures
    ∙ c.if-not-well_formed.false) c.if-run-d.true) in
    record { value = proved.0; result_value = proved.1 }

pub returns : goal.returns
returns c =
    let proved = outcome-said (take-state c.args.d c.args.run (sym c.well_formed-2.ensures
    ∙ c.if-not-well_formed.false) c.if-run-d.false) in
    record { value = proved.0; result_value = proved.1 }
