-- `solve_weighted` meets its contract: the tables' checks decide, and accepted tables have the answer of the budgeted run.
use mathlib.Core.Path.{sym, ◌∙◌}
use Rattle.refusals.proofs.Outcomes.{passed_on}
use Rattle.solver.proofs.Entries.{solve-taken-with, solve-refused-with, said-with}
use Rattle.weighted.specs.Weights.{weighted_rule}
use Rattle.weighted.proofs.solve_weighted.Goals as goal

pub returns-in_err-accept : goal.returns-in_err-accept
returns-in_err-accept c =
    rw (passed_on _ _ c.from_residual.ensures.1) (let proved = said-with weighted_rule c.args.d _ c.args.budget _
    (solve-refused-with weighted_rule c.args.d _ c.args.budget c.in_err-accept.field-0.0
    (sym c.in_err-accept.was ∙ c.accept.ensures.value)) in
    record { value = proved.0; result_value = proved.1 })

pub run_fresh-requires : goal.run_fresh-requires
run_fresh-requires c = sym c.accept.ensures.value ∙ c.in_ok-accept.was

pub returns : goal.returns
returns c =
    let proved = said-with weighted_rule c.args.d _ c.args.budget _
    (solve-taken-with weighted_rule c.args.d _ c.args.budget (sym c.in_ok-accept.was ∙ c.accept.ensures.value) _
    c.run_fresh.ensures) in
    record { value = proved.0; result_value = proved.1 }
