-- `array` meets its contract: each turn writes one more lane after those before.
use mathlib.Core.Path.{◌≡◌}
use Prim.Native.Nat.{◌*◌, ◌-◌}
use lib.Seq.{sets}
use Rattle.gates.specs.Memory.{words_of}
use Rattle.netlist.specs.Arrays.{array}
use Rattle.generator.specs.Storing.{gates_in}
use Rattle.generator.proofs.cells.array.Given as goal

abbrev pub invariant-loop-j : goal.invariant-loop-j
invariant-loop-j l =
    l.words ≡ sets l.initial.words (3 * (l.s.base - l.inputs))
    (words_of (array l.s.zeros (gates_in l.template) l.s.slots l.s.outer l.s.inner l.s.base l.j l.s.cells))
