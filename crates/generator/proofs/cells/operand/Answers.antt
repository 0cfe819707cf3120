-- `operand` meets its contract: the test is the definition's.
use borrow.Author.Tests.{lt-ltb, le-ltb}
use Rattle.generator.proofs.cells.operand.Goals as goal

pub returns-then-x-lt8 : goal.returns-then-x-lt8
returns-then-x-lt8 c = simp (lt-ltb _ _ c.if-x-lt8.true, c.wide-i.ensures)

pub returns-else-x-lt8 : goal.returns-else-x-lt8
returns-else-x-lt8 c = simp (le-ltb _ _ c.if-x-lt8.false)
