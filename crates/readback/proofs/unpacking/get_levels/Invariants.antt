-- `get_levels` meets its contract. The loop's invariant: the levels below the index are read, and `next` is the place after them.
use mathlib.Core.Path.{◌≡◌}
use mathlib.Core.List.{reverse}
use Prim.Native.Nat.{◌+◌}
use lib.ListN.{take}
use Rattle.wires.specs.Bits.{level_at}
use Rattle.readback.specs.Unpacking.{last_first}
use Rattle.readback.specs.Levels.{level_from}
use Rattle.readback.proofs.unpacking.get_levels.Given as goal

abbrev pub invariant-loop-level : goal.invariant-loop-level
invariant-loop-level l =
    (l.next ≡ l.at + level_at l.n l.level-index)
    × (take l.level-index l.level-items ≡ reverse (last_first l.level-index (λ i. level_from l.n l.bytes (l.at + level_at l.n i))))
