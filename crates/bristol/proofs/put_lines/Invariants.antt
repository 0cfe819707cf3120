-- `put_lines` meets its contract. The loop's invariant, `Put`: the lines that are put, and those that still fit after them, are those that fit from the first
-- on.
use Rattle.gates.specs.Memory.{gates_of}
use Rattle.bristol.specs.Text.{circuit_lines}
use Rattle.bristol.proofs.Filling.{Put}
use Rattle.bristol.proofs.put_lines.Given as goal

abbrev pub invariant-loop-next : goal.invariant-loop-next
invariant-loop-next l = Put (circuit_lines l.d (gates_of l.gates)) l.initial.bytes l.line l.bytes l.next l.at
