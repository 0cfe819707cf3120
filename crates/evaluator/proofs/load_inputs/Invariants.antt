-- `load_inputs` meets its contract: at each turn the bytes of wire 0 and of i more inputs are at the front.
use Rattle.std.proofs.Common.{◌≡◌, ◌+◌, ◌++◌, take, drop}
use Rattle.gates.specs.Memory.{bits_of}
use Rattle.evaluator.specs.TrialBytes.{trial_bytes}
use Rattle.evaluator.proofs.load_inputs.Given as goal

abbrev pub invariant-loop-i : goal.invariant-loop-i
invariant-loop-i l = l.scratch ≡ take (1 + l.i) (trial_bytes (bits_of l.inputs)) ++ drop (1 + l.i) l.initial.scratch
