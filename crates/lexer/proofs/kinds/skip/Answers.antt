-- `skip` meets its contract: the run from `i` on ends where the run from `at` on ends.
use mathlib.Core.Path.{refl, sym, ◌∙◌}
use Rattle.lexer.proofs.Runs.{end_stop, end_more, end_max}
use Rattle.lexer.proofs.kinds.skip.Goals as goal

pub loop-i-init : goal.loop-i-init
loop-i-init c = refl

pub returns-then-not-is_kind : goal.returns-then-not-is_kind
returns-then-not-is_kind c =
    sym (end_stop _ _ _ c.loop-i-test.true (sym c.is_kind.ensures ∙ c.if-not-is_kind.true)) ∙ c.loop-i.invariant

pub loop-i-preserved : goal.loop-i-preserved
loop-i-preserved c =
    sym (end_more _ _ _ c.loop-i-test.true (sym c.is_kind.ensures ∙ c.if-not-is_kind.false)) ∙ c.loop-i.invariant

pub returns : goal.returns
returns c =
    c.max.ensures ∙ end_max _ _ _ c.loop-i.i c.loop-i.invariant c.loop-i-test.false c.loop-i.auto.i-end
