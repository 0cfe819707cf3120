-- `read_prefix` meets its contract: with each line passed the lines after it lead to what all lead to.
use Prim.Native.Nat.{◌-◌}
use lib.ListN.{length}
use Rattle.qdimacs.proofs.Lines.{Walking}
use Rattle.qdimacs.proofs.read_prefix.Given as goal

abbrev pub invariant-loop-at : goal.invariant-loop-at
invariant-loop-at l = Walking l.text l.n l.start l.p l.at

abbrev pub decreases-loop-at : goal.decreases-loop-at
decreases-loop-at l = length l.text - l.at
