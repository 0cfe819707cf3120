-- `is_tail` meets its contract: by what `is_blank` ensures.
use mathlib.Core.Path.{◌∙◌, sym}
use Rattle.lexer.proofs.kinds.is_tail.Goals as goal

pub returns-then-is_blank : goal.returns-then-is_blank
returns-then-is_blank c = rw (sym c.is_blank.ensures ∙ c.if-is_blank.true) c.if-is_blank.true

pub returns-else-is_blank : goal.returns-else-is_blank
returns-else-is_blank c = rw (sym c.is_blank.ensures ∙ c.if-is_blank.false)
