-- `trial` meets its contract: `Run` holds at each turn, in the trial's form of bytes; a gate that may not drive its wire makes the whole refused, and at
-- the end the buffer is filled.
use lib.ListN.{length}
use Rattle.gates.specs.Memory.{bits_of}
use Rattle.evaluator.specs.TrialBytes.{trial_bytes}
use Rattle.two_pass.proofs.Running.{Run}
use Rattle.evaluator.proofs.trial.Given as goal

abbrev pub invariant-loop-i : goal.invariant-loop-i
invariant-loop-i l = Run trial_bytes (bits_of l.inputs) l.fn.gates l.initial.scratch (length l.inputs) l.scratch l.i
