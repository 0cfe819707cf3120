-- `place` meets its contract: each turn stores a gate's three words, and what is left of the template gives the rest.
use Rattle.generator.proofs.Placing.{start, again, done}
use Rattle.generator.proofs.cells.place.Goals as goal

pub loop-i-init : goal.loop-i-init
loop-i-init c = start _ _ _ _ _ c.requires.template_value

pub loop-i-preserved : goal.loop-i-preserved
loop-i-preserved c =
    rw c.wide-start.ensures
    (again _ _ _ _ _ _ _ c.loop-i.invariant c.loop-i-test.true c.operand-a.result c.second-b.result c.operand-a.ensures c.second-b.ensures)

pub returns : goal.returns
returns c = done _ _ _ _ _ _ _ c.loop-i.invariant c.loop-i-test.false
