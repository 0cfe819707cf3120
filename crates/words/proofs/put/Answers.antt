-- `put` meets its contract: below 32 a shifted 1 loses nothing.
use borrow.Author.Tests.{le-ltb, lt-ltb}
use Rattle.words.proofs.Operations.{or_shl}
use Rattle.words.proofs.put.Goals as goal

pub returns-then-i-ge32 : goal.returns-then-i-ge32
returns-then-i-ge32 c = rw (le-ltb _ _ c.if-i-ge32.true)

pub returns : goal.returns
returns c = rw (lt-ltb _ _ c.if-i-ge32.false) (or_shl 32 c.args.word c.args.i c.if-i-ge32.false)
