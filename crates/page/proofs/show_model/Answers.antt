-- `show_model` meets its contract: a refusal leaves the page, and a shape that is taken has its page stored.
use mathlib.Core.Path.{refl, sym, ◌∙◌}
use lib.ListN.{length}
use Rattle.refusals.proofs.Outcomes.{passed_on}
use Rattle.page.proofs.Shapes.{shape_taken}
use Rattle.page.proofs.show_model.Goals as goal

pub returns-in_err-check_shape : goal.returns-in_err-check_shape
returns-in_err-check_shape c =
    rw (passed_on _ _ c.from_residual.ensures.1) (record { value = sym c.in_err-check_shape.was ∙ c.check_shape.ensures; page_after = refl })

pub put_page-requires : goal.put_page-requires
put_page-requires c = let w = shape_taken c.args.n c.args.pilots c.args.watches (length c.args.page.now) c.requires.0 c.requires.1
    (sym c.check_shape.ensures ∙ c.in_ok-check_shape.was) in
    (w.pilots_most, w.watches_most, w.fits)

pub returns : goal.returns
returns c =
    record {
      value = sym c.in_ok-check_shape.was
          ∙ c.check_shape.ensures;
      page_after = c.put_page.ensures;
    }
