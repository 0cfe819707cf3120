-- `cells` meets its contract: each turn places one more cell after those before.
use mathlib.Core.Path.{◌≡◌}
use Prim.Native.Nat.{◌*◌, ◌-◌}
use lib.Seq.{sets}
use Rattle.gates.specs.Memory.{words_of}
use Rattle.netlist.specs.Arrays.{cells}
use Rattle.generator.specs.Storing.{gates_in}
use Rattle.generator.proofs.cells.cells.Given as goal

abbrev pub invariant-loop-i : goal.invariant-loop-i
invariant-loop-i l =
    l.words ≡ sets l.initial.words (3 * (l.base - l.inputs)) (words_of (cells (gates_in l.template) l.slots l.steps l.base l.i))
