-- `cells` meets its contract: each turn places one more cell after those before.
use Rattle.std.proofs.Common.{◌*◌, ◌+◌, ◌-◌, length, refl, sym, arith}
use lib.ListN.{length-map}
use Rattle.gates.specs.Memory.{words_of}
use Rattle.netlist.specs.Arrays.{cells}
use Rattle.generator.specs.Storing.{gates_in}
use Rattle.generator.proofs.Placing.{cells-more}
use Rattle.generator.proofs.cells.cells.Goals as goal

pub loop-i-init : goal.loop-i-init
unfolding words_of cells
loop-i-init c = refl

pub loop-i-preserved : goal.loop-i-preserved
loop-i-preserved c =
    let s = c.args in
    let at = s.base + length s.template.now * c.loop-i.i in
    cells-more (gates_in s.template.now) s.slots s.steps _ s.base at (length s.template.now) c.loop-i.i _ _ _ _ (3 * (at - s.inputs))
    c.loop-i.invariant (sym (length-map s.template.now _)) (omega arith) c.along-here.ensures refl c.place.ensures
