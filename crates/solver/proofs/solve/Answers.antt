-- `solve` meets its contract: the tables' checks decide, and accepted tables have the answer of the budgeted run.
use mathlib.Core.Path.{sym, ◌∙◌}
use Rattle.refusals.proofs.Outcomes.{passed_on}
use Rattle.solver.proofs.Entries.{solve-taken, solve-refused, with-said}
use Rattle.solver.proofs.solve.Goals as goal

pub returns-in_err-accept : goal.returns-in_err-accept
returns-in_err-accept c =
    rw (passed_on _ _ c.from_residual.ensures.1) (let proved = with-said c.args.d _ c.args.budget _
    (solve-refused c.args.d _ c.args.budget c.in_err-accept.field-0.0 (sym c.in_err-accept.was ∙ c.accept.ensures.value)) in
    record { value = proved.0; result_value = proved.1 })

pub run_to_close-requires : goal.run_to_close-requires
run_to_close-requires c = sym c.accept.ensures.value ∙ c.in_ok-accept.was

pub returns : goal.returns
returns c =
    let proved = with-said c.args.d _ c.args.budget _
    (solve-taken c.args.d _ c.args.budget (sym c.in_ok-accept.was ∙ c.accept.ensures.value) _ c.run_to_close.ensures) in
    record { value = proved.0; result_value = proved.1 }
