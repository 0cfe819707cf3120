-- `with_row` meets its contract by its tests' cases.
use mathlib.Core.Path.{sym, ◌∙◌}
use borrow.Author.Tests.{eq-eqb, ne_eqb}
use Rattle.tally.proofs.rows.with_row.Goals as goal

pub returns-then-variables-eq0 : goal.returns-then-variables-eq0
returns-then-variables-eq0 c = rw (eq-eqb _ 0 c.if-variables-eq0.true)

pub returns-then-not-single : goal.returns-then-not-single
returns-then-not-single c = rw (ne_eqb _ 0 c.if-variables-eq0.false, sym c.single.ensures ∙ c.if-not-single.true)

pub returns : goal.returns
returns c =
    rw (ne_eqb _ 0 c.if-variables-eq0.false, sym c.single.ensures ∙ c.if-not-single.false)
