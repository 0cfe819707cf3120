-- `read_numbers` meets its contract: with each number one variable more is bound, and 0 closes the line.
use Prim.Native.Nat.{◌-◌}
use lib.ListN.{length}
use Rattle.qdimacs.proofs.Bindings.{Listing}
use Rattle.qdimacs.proofs.read_numbers.Given as goal

abbrev pub invariant-loop-from : goal.invariant-loop-from
invariant-loop-from l = Listing l.line l.start l.n l.universal l.initial.p l.p l.at

abbrev pub decreases-loop-from : goal.decreases-loop-from
decreases-loop-from l = length l.line - l.at
