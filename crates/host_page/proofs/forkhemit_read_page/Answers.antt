-- `forkhemit_read_page` meets its contract: the model on the page, written where there is one.
use mathlib.Core.Path.{sym, ap, ◌∙◌}
use Rattle.std.specs.Prelude.{ℕ, Result}
use Rattle.refusals.specs.declared.Refusal.{Refusal}
use Rattle.verdicts.specs.Verdicts.{model_code, model_numbers}
use Rattle.lent.specs.Lent.{numbers_or}
use Rattle.host_page.proofs.forkhemit_read_page.Goals as goal

pub returns-in-Ok : goal.returns-in-Ok
returns-in-Ok c =
    let told = c in
    let call = told in
    let is = sym told.in-Ok.is ∙ call.read.ensures.value in
    record { value = ap model_code is; model_after = ap (λ (m : Result ℕ Refusal). numbers_or (model_numbers m) call.args.model.now) is }

pub returns-in-Err : goal.returns-in-Err
returns-in-Err c =
    let told = c in
    let call = told in
    let is = sym told.in-Err.is ∙ call.read.ensures.value in
    record { value = c.from.ensures ∙ ap model_code is; model_after = ap (λ (m : Result ℕ Refusal). numbers_or (model_numbers m) call.args.model.now) is }
