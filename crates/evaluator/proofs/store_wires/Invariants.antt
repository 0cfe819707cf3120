-- `store_wires` meets its contract: at each turn the first i of the bytes are at the front.
use Rattle.std.proofs.Common.{◌≡◌, ◌++◌, take, drop}
use Rattle.evaluator.specs.TrialBytes.{wire_bytes}
use Rattle.evaluator.proofs.store_wires.Given as goal

abbrev pub invariant-loop-i : goal.invariant-loop-i
invariant-loop-i l = l.wires ≡ take l.i (wire_bytes (take l.count l.scratch)) ++ drop l.i l.initial.wires
