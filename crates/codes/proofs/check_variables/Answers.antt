-- `check_variables` meets its contract: the test is the definition's.
use mathlib.Core.Path.{sym, ◌∙◌}
use Rattle.refusals.proofs.Outcomes.{outcome-said}
use Rattle.codes.proofs.AsBytes.{variables_refused, variables_taken}
use Rattle.codes.proofs.check_variables.Goals as goal

pub returns-then-variables_outside : goal.returns-then-variables_outside
returns-then-variables_outside c =
    let proved = outcome-said (variables_refused c.args.n (sym c.variables_outside.ensures ∙ c.if-variables_outside.true)) in
    record { value = proved.0; result_value = proved.1 }

pub returns : goal.returns
returns c =
    let proved = outcome-said (variables_taken c.args.n (sym c.variables_outside.ensures ∙ c.if-variables_outside.false)) in
    record { value = proved.0; result_value = proved.1 }
