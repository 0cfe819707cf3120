-- `precedes` meets its contract: each test of words is the definition's test of variables.
use mathlib.Core.Path.{sym, ◌∙◌}
use native.Mathlib.Omega.{arith}
use Rattle.state.proofs.StateTests.{no_sets, no_variable_lem, not_free, not_within, now-true}
use Rattle.state.proofs.precedes.Goals as goal

pub returns-then-not-sets : goal.returns-then-not-sets
returns-then-not-sets c = no_sets _ _ _ _ (sym c.sets.ensures ∙ c.if-not-sets.true)

pub returns-then-n-chosen : goal.returns-then-n-chosen
returns-then-n-chosen c = no_variable_lem _ _ _ _ (sym c.sets.ensures ∙ c.if-not-sets.false) c.if-n-chosen.true

pub returns-then-bit : goal.returns-then-bit
returns-then-bit c =
    not_free _ _ _ _ (sym c.sets.ensures ∙ c.if-not-sets.false) c.if-n-chosen.false
    (sym c.bit.ensures ∙ c.if-bit.true)

pub returns-then-level-t-ne0 : goal.returns-then-level-t-ne0
returns-then-level-t-ne0 c =
    not_within _ _ _ _ (sym c.sets.ensures ∙ c.if-not-sets.false) c.if-n-chosen.false
    (sym c.bit.ensures ∙ c.if-bit.false) (omega arith) (omega arith) (omega arith) (omega arith) c.if-level-t-ne0.true

pub returns : goal.returns
returns c =
    c.bit-2.ensures
    ∙ now-true _ _ _ _ (sym c.sets.ensures ∙ c.if-not-sets.false) c.if-n-chosen.false
    (sym c.bit.ensures ∙ c.if-bit.false) (omega arith) (omega arith) (omega arith) (omega arith) c.if-level-t-ne0.false
