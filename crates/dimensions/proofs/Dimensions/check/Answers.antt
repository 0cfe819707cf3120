-- `Dimensions::check` meets its contract: its outcome is the one from which `Dimensions::new` answers.
use mathlib.Core.Path.{sym, ◌∙◌}
use Rattle.refusals.proofs.Outcomes.{outcome-said, passed_on}
use Rattle.dimensions.proofs.Limits.{given_of, given-refused}
use Rattle.dimensions.proofs.Dimensions.check.Goals as goal

pub returns : goal.returns
returns c =
    let proved = outcome-said (given_of _ _ _ (sym c.new.ensures.value ∙ c.in_ok-new.was)) in
    record { value = proved.0; result_value = proved.1 }

pub returns-in_err-new : goal.returns-in_err-new
returns-in_err-new c =
    let proved = outcome-said (passed_on _ _ c.from_residual.ensures.1 ∙ given-refused _ _ _ (sym c.new.ensures.value ∙ c.in_err-new.was)) in
    record { value = proved.0; result_value = proved.1 }
