-- `level_at` meets its contract: the test is the definition's.
use borrow.Author.Tests.{lt-ltb, le-ltb}
use Rattle.wires.proofs.packing.level_at.Goals as goal

pub returns-then-l-depth : goal.returns-then-l-depth
returns-then-l-depth c = rw (lt-ltb _ _ c.if-l-depth.true)

pub returns : goal.returns
returns c = rw (le-ltb _ _ c.if-l-depth.false)
