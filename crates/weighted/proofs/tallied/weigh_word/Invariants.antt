-- `weigh_word` meets its contract: the weights held and what the rows left add are what the whole set adds. The measure is what is left.
use Prim.Native.Nat.{◌^◌, ◌<◌}
use Rattle.weighted.specs.Floats.{word_weight}
use Rattle.weighted.proofs.Weighing.{Weighing}
use Rattle.weighted.proofs.tallied.weigh_word.Given as goal

abbrev pub invariant-loop-left : goal.invariant-loop-left
invariant-loop-left l =
    (l.left < 2 ^ 64) × Weighing (word_weight l.words l.first l.set l.unset) (word_weight l.words l.first l.left l.unset) l.initial.weights l.weights

abbrev pub decreases-loop-left : goal.decreases-loop-left
decreases-loop-left l = l.left
