-- `find` meets its contract: the run from `i` on ends where the run from `at` on ends.
use mathlib.Core.Path.{refl, sym, ap, ◌∙◌}
use mathlib.Core.Bool.{not}
use Rattle.lexer.specs.Kinds.{passes}
use Rattle.lexer.proofs.Runs.{end_stop, end_more, end_max}
use Rattle.lexer.proofs.kinds.find.Goals as goal

pub loop-i-init : goal.loop-i-init
loop-i-init c = refl

pub returns-then-is_kind : goal.returns-then-is_kind
returns-then-is_kind c =
    sym (end_stop (λ b. not (passes c.args.kind b)) _ _ c.loop-i-test.true
    (ap not (sym c.is_kind.ensures ∙ c.if-is_kind.true))) ∙ c.loop-i.invariant

pub loop-i-preserved : goal.loop-i-preserved
loop-i-preserved c =
    sym (end_more (λ b. not (passes c.args.kind b)) _ _ c.loop-i-test.true
    (ap not (sym c.is_kind.ensures ∙ c.if-is_kind.false))) ∙ c.loop-i.invariant

pub returns : goal.returns
returns c =
    c.max.ensures ∙ end_max _ _ _ c.loop-i.i c.loop-i.invariant c.loop-i-test.false c.loop-i.auto.i-end
