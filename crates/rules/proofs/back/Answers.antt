-- `back` meets its contract: the last level is zeroed, or there is none.
use borrow.Author.Tests.{eq-eqb, ne_eqb, le-leb, lt-leb}
use Rattle.rules.proofs.back.Goals as goal

pub returns-then-depth-eq0 : goal.returns-then-depth-eq0
returns-then-depth-eq0 c = rw (eq-eqb _ _ c.if-depth-eq0.true)

pub returns-then-depth-le32 : goal.returns-then-depth-le32
returns-then-depth-le32 c = rw (ne_eqb _ _ c.if-depth-eq0.false, le-leb _ _ c.if-depth-le32.true, c.put-f.ensures)

pub returns-else-depth-le32 : goal.returns-else-depth-le32
returns-else-depth-le32 c = rw (ne_eqb _ _ c.if-depth-eq0.false, lt-leb _ _ c.if-depth-le32.false)
