-- `sections` meets its contract: each turn writes one more section after those before.
use mathlib.Core.Path.{◌≡◌}
use lib.Seq.{sets}
use Rattle.gates.specs.Memory.{words_of}
use Rattle.netlist.specs.Arrays.{rows}
use Rattle.generator.specs.Storing.{gates_at}
use Rattle.generator.proofs.sections.Given as goal

abbrev pub invariant-loop-k : goal.invariant-loop-k
invariant-loop-k l = l.words ≡ sets l.initial.words 0 (words_of (rows (gates_at l.d) l.k))
