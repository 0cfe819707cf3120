-- `all_gates` meets its contract: what is left of the words is judged, after the wires so far, as the whole is.
use Rattle.std.proofs.Common.{◌≡◌, ◌+◌, ◌*◌, drop}
use Rattle.gates.specs.Memory as Memory
use Rattle.gates.proofs.all_gates.Given as goal

abbrev pub invariant-loop-i : goal.invariant-loop-i
invariant-loop-i l = Memory.accepted (l.n + l.i) (drop (3 * l.i) l.fn.gates) ≡ Memory.accepted l.n l.fn.gates
