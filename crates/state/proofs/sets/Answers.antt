-- `sets` meets its contract: each test that fails makes the definition false, and no common digit is a test of every variable.
use mathlib.Core.Path.{sym, ◌∙◌}
use Rattle.state.proofs.StateTests.{high_t, high-f, sets_word}
use Rattle.state.proofs.sets.Goals as goal

pub returns-then-not-below : goal.returns-then-not-below
returns-then-not-below c = high_t _ _ _ (sym c.below.ensures ∙ c.if-not-below.true)

pub returns-then-not-below-2 : goal.returns-then-not-below-2
returns-then-not-below-2 c = high-f _ _ _ (sym c.below.ensures ∙ c.if-not-below.false)
    (sym c.below-2.ensures ∙ c.if-not-below-2.true)

pub returns : goal.returns
returns c = sets_word _ _ _ (sym c.below.ensures ∙ c.if-not-below.false)
    (sym c.below-2.ensures ∙ c.if-not-below-2.false)
