-- `model` meets its contract: a check that fails decides, then the standing.
use mathlib.Core.Path.{sym, ◌∙◌}
use Rattle.verdicts.proofs.Models.{with-model, model_unformed, model-satisfied, model_open, model-refuted}
use Rattle.verdicts.proofs.model.Goals as goal

pub returns-then-not-well_formed : goal.returns-then-not-well_formed
returns-then-not-well_formed c =
    let proved = with-model _ _ (model_unformed c.args.run (sym c.well_formed-2.ensures ∙ c.if-not-well_formed.true)) in
    record { value = proved.0; result_value = proved.1 }

pub returns-in-Satisfied : goal.returns-in-Satisfied
returns-in-Satisfied c =
    let proved = with-model _ _ (model-satisfied c.args.run (sym c.well_formed-2.ensures
    ∙ c.if-not-well_formed.false) c.in-Satisfied.is) in
    record { value = proved.0; result_value = proved.1 }

pub returns-in-Open : goal.returns-in-Open
returns-in-Open c =
    let proved = with-model _ _ (model_open c.args.run (sym c.well_formed-2.ensures
    ∙ c.if-not-well_formed.false) c.in-Open.is) in
    record { value = proved.0; result_value = proved.1 }

pub returns-in-Refuted : goal.returns-in-Refuted
returns-in-Refuted c =
    let proved = with-model _ _ (model-refuted c.args.run (sym c.well_formed-2.ensures
    ∙ c.if-not-well_formed.false) c.in-Refuted.is) in
    record { value = proved.0; result_value = proved.1 }
