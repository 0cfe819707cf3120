-- `read` meets its contract: each refusal by its check, in their order, and the model where the page is that of what its marks say.
use mathlib.Core.Path.{◌≡◌, sym, ap, ◌∙◌}
use Prim.Native.Nat.{ℕ, ◌*◌}
use lib.ListN.{length, take}
use Rattle.refusals.proofs.Outcomes.{passed_on}
use Rattle.std.specs.Prelude.{Ok}
use Rattle.words.specs.Sameness.{same}
use Rattle.dimensions.proofs.Limits.{least, most}
use Rattle.page.specs.Page.{page_of}
use Rattle.page.specs.Reading.{is_page}
use Rattle.page.proofs.Shapes.{shape_taken}
use Rattle.page.proofs.Answering.{with_read, read_variables, read_shape, read_form, read-model}
use Rattle.page.proofs.read.Goals as goal

pub returns-then-n : goal.returns-then-n
returns-then-n c =
    let a = c.args in
    let proved = with_read a.n a.pilots a.watches a.page.now _ (read_variables a.n a.pilots a.watches a.page.now c.if-n.true) in
    record { value = proved.0; result_value = proved.1 }

pub check_shape-requires : goal.check_shape-requires
check_shape-requires c = let a = c.args in (least 32 a.n c.if-n.false, most 32 a.n c.if-n.false)

pub returns-in_err-check_shape : goal.returns-in_err-check_shape
returns-in_err-check_shape c =
    rw (passed_on _ _ c.from_residual.ensures.1) (let a = c.args in
    let proved = with_read a.n a.pilots a.watches a.page.now _
    (read_shape a.n a.pilots a.watches a.page.now c.if-n.false _
    (sym c.check_shape.ensures ∙ c.in_err-check_shape.was)) in
    record { value = proved.0; result_value = proved.1 })

pub marked-model-requires : goal.marked-model-requires
marked-model-requires c = let a = c.args in
    let h = c.if-n.false in
    let w = shape_taken a.n a.pilots a.watches (length a.page.now) (least 32 a.n h) (most 32 a.n h)
    (sym c.check_shape.ensures ∙ c.in_ok-check_shape.was) in
    (most 32 a.n h, w.watches_least, w.watches_most)

pub is_page-requires : goal.is_page-requires
is_page-requires c =
    let a = c.args in
    let h = c.if-n.false in
    let w = shape_taken a.n a.pilots a.watches (length a.page.now) (least 32 a.n h) (most 32 a.n h)
    (sym c.check_shape.ensures ∙ c.in_ok-check_shape.was) in
    (w.pilots_most, w.watches_most, w.fits)

pub returns-then-not-is_page : goal.returns-then-not-is_page
unfolding is_page
returns-then-not-is_page c =
    let a = c.args in
    let same-page : is_page a.n a.pilots a.watches a.page.now ≡ c.is_page.result =
    sym (c.is_page.ensures ∙ ap (λ (m : ℕ). same (take (80 * a.pilots) a.page.now) (page_of a.pilots a.watches m))
    c.marked-model.ensures) in
    let proved = with_read a.n a.pilots a.watches a.page.now _
    (read_form a.n a.pilots a.watches a.page.now c.if-n.false
    (sym c.check_shape.ensures ∙ c.in_ok-check_shape.was)
    (same-page ∙ c.if-not-is_page.true)) in
    record { value = proved.0; result_value = proved.1 }

pub returns : goal.returns
unfolding is_page
returns c =
    let a = c.args in
    let same-page : is_page a.n a.pilots a.watches a.page.now ≡ c.is_page.result =
    sym (c.is_page.ensures ∙ ap (λ (m : ℕ). same (take (80 * a.pilots) a.page.now) (page_of a.pilots a.watches m))
    c.marked-model.ensures) in
    let proved = with_read a.n a.pilots a.watches a.page.now _
    (ap Ok c.marked-model.ensures
    ∙ read-model a.n a.pilots a.watches a.page.now c.if-n.false
    (sym c.check_shape.ensures ∙ c.in_ok-check_shape.was)
    (same-page ∙ c.if-not-is_page.false)) in
    record { value = proved.0; result_value = proved.1 }
