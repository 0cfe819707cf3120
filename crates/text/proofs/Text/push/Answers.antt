-- `Text::push` meets its contract: the test is the definition's, and the store is its.
use borrow.Author.Tests.{le-ltb, lt-ltb}
use Rattle.text.proofs.Text.push.Goals as goal

pub returns-then-length-ge256 : goal.returns-then-length-ge256
returns-then-length-ge256 c = rw (le-ltb _ _ c.if-length-ge256.true)

pub returns : goal.returns
returns c = rw (lt-ltb _ _ c.if-length-ge256.false)
