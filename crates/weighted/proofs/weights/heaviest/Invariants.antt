-- `heaviest` meets its contract. The loop's invariant: `best` is the greatest of the weights below i.
use mathlib.Core.Path.{◌≡◌}
use Prim.Native.Nat.{◌<◌}
use lib.ListN.{get_or}
use lib.Ieee.{nan, lt}
use Rattle.weighted.specs.Weights.{greatest}
use Rattle.weighted.proofs.weights.heaviest.Given as goal

abbrev pub invariant-loop-i : goal.invariant-loop-i
invariant-loop-i l = (l.best < 32) × (l.best ≡ greatest (λ i j. lt (get_or l.fn.weights i nan) (get_or l.fn.weights j nan)) l.i)
