-- `field_end` meets its contract: the tests are the definition's.
use borrow.Author.Tests.{lt-ltb, le-ltb}
use Rattle.lines.proofs.field_end.Goals as goal

pub returns-then-closes : goal.returns-then-closes
returns-then-closes c = rw (lt-ltb _ _ c.if-at-i.true) (rw c.if-closes.true)

pub returns-else-closes : goal.returns-else-closes
returns-else-closes c = rw (lt-ltb _ _ c.if-at-i.true) (rw c.if-closes.false)

pub returns-else-at-i : goal.returns-else-at-i
returns-else-at-i c = rw (le-ltb _ _ c.if-at-i.false)
