-- `choose` meets its contract: one more level is stored where there is room.
use borrow.Author.Tests.{le-ltb, lt-ltb}
use Rattle.rules.proofs.choose.Goals as goal

pub returns-then-depth-lt32 : goal.returns-then-depth-lt32
returns-then-depth-lt32 c = rw (lt-ltb _ _ c.if-depth-lt32.true, c.put-t.ensures)

pub returns-else-depth-lt32 : goal.returns-else-depth-lt32
returns-else-depth-lt32 c = rw (le-ltb _ _ c.if-depth-lt32.false)
