-- `nth_clause` meets its contract: with each clause that is read one more is passed.
use mathlib.Core.Path.{sym, ◌∙◌}
use Rattle.excerpts.proofs.Clauses.{none_skipped, one_skipped, none_left, all_skipped}
use Rattle.excerpts.proofs.nth_clause.Goals as goal

pub loop-init : goal.loop-init
loop-init c = none_skipped _ _ _ _

pub returns-in_default : goal.returns-in_default
returns-in_default c =
    none_left _ _ _ _ _ _ c.loop.invariant c.loop-test.true _ c.read_clause.ensures.value c.in_default.not-Read

pub loop-preserved : goal.loop-preserved
loop-preserved c =
    one_skipped _ _ _ _ _ _ c.loop.invariant c.loop-test.true c.requires _ _ _
    (sym c.read_clause.ensures.value ∙ c.in-Read.is)

pub returns : goal.returns
returns c = c.read_clause-2.ensures.value ∙ all_skipped _ _ _ _ _ _ c.loop.invariant c.loop-test.false
