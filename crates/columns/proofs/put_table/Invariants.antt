-- `put_table` meets its contract: the squares left to restore give what all squares give.
use mathlib.Core.Path.{◌≡◌}
use Prim.Native.Nat.{◌≤◌, ◌-◌, ◌+◌, ◌/◌}
use Rattle.columns.proofs.Restoring.{Restoring}
use Rattle.columns.proofs.put_table.Given as goal

abbrev pub invariant-loop-s : goal.invariant-loop-s
invariant-loop-s l = (l.s ≤ l.squares) × (l.squares ≡ (l.rows + 31) / 32) × Restoring l.planes l.initial.table l.rows l.s l.table

abbrev pub decreases-loop-s : goal.decreases-loop-s
decreases-loop-s l = l.squares - l.s
