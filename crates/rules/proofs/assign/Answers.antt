-- `assign` meets its contract: the literal is put into T or F.
use Rattle.rules.proofs.assign.Goals as goal

pub returns-then-positive : goal.returns-then-positive
returns-then-positive c = rw (c.if-positive.true, c.put-t.ensures)

pub returns-else-positive : goal.returns-else-positive
returns-else-positive c = rw (c.if-positive.false, c.put-f.ensures)
