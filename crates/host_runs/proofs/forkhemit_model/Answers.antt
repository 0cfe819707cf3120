-- `forkhemit_model` meets its contract: the model of the run in the words, written where there is one.
use mathlib.Core.Path.{sym, ap, ◌∙◌}
use Rattle.std.specs.Prelude.{ℕ, Result}
use Rattle.refusals.specs.declared.Refusal.{Refusal}
use Rattle.verdicts.specs.Verdicts.{model_of, model_code, model_numbers}
use Rattle.lent.specs.Lent.{numbers_or}
use Rattle.host_runs.proofs.forkhemit_model.Goals as goal

pub returns-in-Ok : goal.returns-in-Ok
returns-in-Ok c =
    let is = sym c.in-Ok.is ∙ c.model.ensures.value ∙ ap model_of c.load.ensures in record {
      value = ap model_code is;
      model_after = ap (λ (m : Result ℕ Refusal). numbers_or (model_numbers m) c.args.model.now) is;
    }

pub returns-in-Err : goal.returns-in-Err
returns-in-Err c =
    let is = sym c.in-Err.is ∙ c.model.ensures.value ∙ ap model_of c.load.ensures in record {
      value = c.from.ensures ∙ ap model_code is;
      model_after = ap (λ (m : Result ℕ Refusal). numbers_or (model_numbers m) c.args.model.now) is;
    }
