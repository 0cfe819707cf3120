-- `run` meets its contract: `Run` holds at each turn, and at the end says that the buffer is filled.
use lib.ListN.{take}
use Rattle.gates.specs.Memory.{bytes_of, bits_of}
use Rattle.two_pass.proofs.Running.{Run}
use Rattle.two_pass.proofs.run.Given as goal

abbrev pub invariant-loop-i : goal.invariant-loop-i
invariant-loop-i l = Run bytes_of (bits_of (take l.n l.initial.wires)) l.fn.gates l.initial.wires l.n l.wires l.i
