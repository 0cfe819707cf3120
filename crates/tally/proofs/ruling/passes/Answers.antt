-- `passes` meets its contract by its test's two cases.
use mathlib.Core.Path.{sym, ◌∙◌}
use Rattle.tally.proofs.ruling.passes.Goals as goal

pub returns-then-bit : goal.returns-then-bit
returns-then-bit c = c.stands_in.ensures ∙ rw (sym c.bit.ensures ∙ c.if-bit.true)

pub returns : goal.returns
returns c = rw (sym c.bit.ensures ∙ c.if-bit.false)
