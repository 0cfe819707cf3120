-- `put_rows` meets its contract. The loop's invariant: the rows below `j` are stored, and `next` is the place after them.
use Prim.Native.Nat.{◌+◌}
use Rattle.tables.specs.Rows.{row_at}
use Rattle.wires.specs.Layout.{row_bits}
use Rattle.wires.proofs.Stores.{Listed}
use Rattle.wires.proofs.packing.put_rows.Given as goal

abbrev pub invariant-loop-j : goal.invariant-loop-j
invariant-loop-j l = Listed (l.n + l.n) (λ j'. row_bits l.n (row_at l.words j')) l.initial.bytes l.at l.bytes l.next l.j
