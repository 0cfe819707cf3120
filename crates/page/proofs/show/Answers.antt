-- `show` meets its contract: 12 and 14 by the model, 25 and 26 by the shape, and the page of the model.
use mathlib.Core.Path.{refl, sym, ◌∙◌}
use Rattle.refusals.proofs.Outcomes.{outcome-said}
use Rattle.page.proofs.Answering.{shown, model-taken, model-refused, page-refused, page_shaped, page-left}
use Rattle.page.proofs.show.Goals as goal

pub show_model-requires : goal.show_model-requires
show_model-requires c =
    let a = c.args in
    let w = model-taken a.run _ (sym c.in-Ok.is
    ∙ c.model.ensures.value) in
    let f = shown a.run w.0 in
    (f.least, f.most)

pub returns-in-Ok : goal.returns-in-Ok
returns-in-Ok c =
    let a = c.args in
    let w = model-taken a.run _ (sym c.in-Ok.is
    ∙ c.model.ensures.value) in
    let call = c.show_model in
    let e = c.show_model.ensures.value ∙ page_shaped a.run a.pilots a.watches a.page.now w.0 in
    record {
      value = e;
      page_after = c.show_model.ensures.page_after ∙ page-left a.run a.pilots a.watches a.page.now _ e _ w.1;
      result_value = (outcome-said e).1;
    }

pub returns-in-Err : goal.returns-in-Err
returns-in-Err c =
    let a = c.args in
    let e = page-refused a.run a.pilots a.watches a.page.now _
    (model-refused a.run _ (sym c.in-Err.is ∙ c.model.ensures.value)) in
    record { value = e; page_after = page-left a.run a.pilots a.watches a.page.now _ e a.run.t refl; result_value = (outcome-said e).1 }
