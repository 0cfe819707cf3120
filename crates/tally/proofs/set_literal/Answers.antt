-- `set_literal` meets its contract: by the literal's sign where there is such a variable.
use mathlib.Core.Path.{◌∙◌}
use Rattle.tally.proofs.Gathering.{no_variable_lem, sign-true, sign-false}
use Rattle.tally.proofs.set_literal.Goals as goal

pub returns-then-v-ge32 : goal.returns-then-v-ge32
returns-then-v-ge32 c = no_variable_lem _ _ _ _ _ _ _ c.if-v-ge32.true

pub returns-then-positive : goal.returns-then-positive
returns-then-positive c =
    c.after.ensures ∙ sign-true _ _ _ _ _ _ _ c.if-v-ge32.false _ c.put-unset.ensures c.if-positive.true

pub returns : goal.returns
returns c =
    c.after-2.ensures ∙ sign-false _ _ _ _ _ _ _ c.if-v-ge32.false _ c.put-unset.ensures c.if-positive.false
