-- `number_at` meets its contract, column by column.
use native.Mathlib.Omega.{arith}
use Rattle.page.proofs.Lines.{number-first, number-space, number-tens, number-last}
use Rattle.page.proofs.number_at.Goals as goal

pub returns-then-column-eq0 : goal.returns-then-column-eq0
returns-then-column-eq0 c = number-first c.args.number c.args.column c.requires.0 c.if-column-eq0.true

pub returns-then-column-eq2 : goal.returns-then-column-eq2
returns-then-column-eq2 c = number-last c.args.number c.args.column c.requires.0 c.if-column-eq2.true

pub returns-then-number-lt10 : goal.returns-then-number-lt10
returns-then-number-lt10 c = number-space c.args.number c.args.column c.requires.0 (omega arith) c.if-number-lt10.true

pub returns : goal.returns
returns c = number-tens c.args.number c.args.column c.requires.0 (omega arith) c.if-number-lt10.false
