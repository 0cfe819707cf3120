-- `closed_at` meets its contract: by the last byte.
use Rattle.drat_line.proofs.Reading.{closed_none, closed_return, closed-other}
use Rattle.drat_line.proofs.closed_at.Goals as goal

pub returns-then-end-eq0 : goal.returns-then-end-eq0
returns-then-end-eq0 c = closed_none c.args.line.now c.if-end-eq0.true

pub returns-then-line-end-eq13 : goal.returns-then-line-end-eq13
returns-then-line-end-eq13 c = closed_return c.args.line.now c.if-line-end-eq13.true

pub returns : goal.returns
returns c = closed-other c.args.line.now c.if-line-end-eq13.false
