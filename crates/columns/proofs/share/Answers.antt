-- `share` meets its contract: the test of the code is that of the definition.
use borrow.Author.Tests.{lt-ltb, le-ltb}
use Rattle.columns.proofs.share.Goals as goal

pub returns-then-left-most : goal.returns-then-left-most
returns-then-left-most c = rw (lt-ltb _ _ c.if-left-most.true)

pub returns-else-left-most : goal.returns-else-left-most
returns-else-left-most c = rw (le-ltb _ _ c.if-left-most.false)
