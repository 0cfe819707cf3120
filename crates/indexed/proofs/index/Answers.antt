-- `index` meets its contract: the tables' checks decide, and accepted tables have their index.
use mathlib.Core.Path.{sym, ◌∙◌}
use Rattle.refusals.proofs.Outcomes.{also_said, passed_on}
use Rattle.indexed.proofs.Entries.{index-taken, index-refused}
use Rattle.indexed.proofs.index.Goals as goal

pub returns-in_err-accept : goal.returns-in_err-accept
returns-in_err-accept c =
    rw (passed_on _ _ c.from_residual.ensures.1) (let e = sym c.in_err-accept.was ∙ c.accept.ensures.value in
    let proved = also_said (e, index-refused c.args.d _ _ c.in_err-accept.field-0.0 e) in
    record { value = proved.0; index_after = proved.1.0; result_value = proved.1.1 })

pub make_index-requires : goal.make_index-requires
make_index-requires c = sym c.accept.ensures.value ∙ c.in_ok-accept.was

pub returns : goal.returns
returns c =
    let e = sym c.in_ok-accept.was ∙ c.accept.ensures.value in
    let proved = also_said (e, index-taken c.args.d _ _ e _ c.make_index.ensures.index_after) in
    record { value = proved.0; index_after = proved.1.0; result_value = proved.1.1 }
