-- `repeat_circuit` meets its contract. The loop's invariant: the repeats done and those that are left are the call's; run, number, bytes
-- and wires are as the repeats done left them. The measure is what is left of the times.
use Prim.Native.Nat.{◌-◌}
use Rattle.tables.specs.Tables.{words_in}
use Rattle.repeats.proofs.Repeating.{Repeating}
use Rattle.repeats.proofs.repeat_circuit.Given as goal

abbrev pub invariant-loop-d : goal.invariant-loop-d
invariant-loop-d l =
    Repeating l.d (words_in l.tables) l.times l.initial.bytes l.initial.wires l.initial.run l.bytes l.wires l.run l.repeats

abbrev pub decreases-loop-d : goal.decreases-loop-d
decreases-loop-d l = l.times - l.repeats
