-- `get_set` meets its contract. The loop's invariant: `word` has the wires behind those that are left.
use Rattle.std.specs.Slice.Iter.{iter_rest}
use Rattle.std.specs.Iterator.Adapters.{rev_source}
use Rattle.readback.proofs.Words.{Gathered}
use Rattle.readback.proofs.unpacking.get_set.Given as goal

abbrev pub invariant-loop-byte : goal.invariant-loop-byte
invariant-loop-byte l = Gathered l.bytes l.at l.n (iter_rest (rev_source l.byte-iterator)) l.word
