-- `step_indexed` meets its contract: the tables' checks come first.
use mathlib.Core.Path.{refl, sym, ◌∙◌}
use Rattle.refusals.proofs.Outcomes.{passed_on}
use Rattle.indexed.proofs.Entries.{apart, together, step-taken, step-refused}
use Rattle.indexed.proofs.step_indexed.Goals as goal

pub returns-in_err-accept : goal.returns-in_err-accept
returns-in_err-accept c =
    rw (passed_on _ _ c.from_residual.ensures.1) (let proved = step-refused c.args.d _ _ c.args.run.now c.args.number.now _
    (sym c.in_err-accept.was ∙ c.accept.ensures.value) c.in_err-accept.field-0.0 refl in
    let parts = apart proved.0 in
    record { value = parts.0; run_after = parts.1; number_after = parts.2; result_value = proved.1 })

pub returns : goal.returns
returns c =
    let e = c.step_accepted.ensures in
    let proved = step-taken c.args.d _ _ c.args.run.now c.args.number.now (sym c.in_ok-accept.was ∙ c.accept.ensures.value)
    (record { outcome = c.step_accepted.result; run = c.step_accepted.new.run; number = c.step_accepted.new.number })
    (together e.value e.run_after e.number_after) in
    let parts = apart proved.0 in
    record { value = parts.0; run_after = parts.1; number_after = parts.2; result_value = proved.1 }
