-- `put_squares` meets its contract: the squares left to store give what all squares give.
use Prim.Native.Nat.{◌≤◌, ◌-◌}
use Rattle.columns.proofs.Storing.{Squaring}
use Rattle.columns.proofs.put_squares.Given as goal

abbrev pub invariant-loop-s : goal.invariant-loop-s
invariant-loop-s l = (l.s ≤ l.k) × Squaring l.table l.initial.planes l.k l.s l.planes

abbrev pub decreases-loop-s : goal.decreases-loop-s
decreases-loop-s l = l.k - l.s
