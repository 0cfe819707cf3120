-- `put_levels` meets its contract. The loop's invariant: the levels below `l` are stored, and `next` is the place after them.
use Prim.Native.Nat.{◌+◌}
use Rattle.wires.specs.Levels.{level_bits, level_in}
use Rattle.wires.proofs.Stores.{Listed}
use Rattle.wires.proofs.packing.put_levels.Given as goal

abbrev pub invariant-loop-l : goal.invariant-loop-l
invariant-loop-l l = Listed (l.n + (l.n + l.n)) (λ i. level_bits l.n (level_in l.n l.levels l.depth i)) l.initial.bytes l.at l.bytes l.next l.l
