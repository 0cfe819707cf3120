-- `only` meets its contract: the test is that of the definition.
use mathlib.Core.Path.{sym, ◌∙◌}
use Rattle.scan.proofs.only.Goals as goal

pub returns-then-single : goal.returns-then-single
returns-then-single c = rw (sym c.single.ensures ∙ c.if-single.true)

pub returns : goal.returns
returns c = rw (sym c.single.ensures ∙ c.if-single.false)
