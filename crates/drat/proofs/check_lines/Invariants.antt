-- `check_lines` meets its contract. The loop's invariant: what is left gives what the whole gives.
use Prim.Native.Nat.{◌+◌, ◌-◌}
use lib.ListN.{length}
use Rattle.drat.proofs.Whole.{Reading}
use Rattle.drat.proofs.check_lines.Given as goal

abbrev pub invariant-loop-at : goal.invariant-loop-at
invariant-loop-at l = Reading l.n l.text l.count l.initial.words l.checker l.words l.at

abbrev pub decreases-loop-at : goal.decreases-loop-at
decreases-loop-at l = length l.text + 1 - l.at
