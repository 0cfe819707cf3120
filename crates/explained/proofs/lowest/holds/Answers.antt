-- `holds` meets its contract: the sign says which word is looked at.
use Rattle.explained.proofs.lowest.holds.Goals as goal

pub returns-then-positive : goal.returns-then-positive
returns-then-positive c = rw c.if-positive.true c.bit.ensures

pub returns : goal.returns
returns c = rw c.if-positive.false c.bit-2.ensures
