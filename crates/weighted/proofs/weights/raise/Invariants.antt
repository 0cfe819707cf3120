-- `raise` meets its contract: what is left of the word falls, and its lowest bit's weight is raised at each turn.
use Rattle.weighted.proofs.Raising.{Raising}
use Rattle.weighted.proofs.weights.raise.Given as goal

abbrev pub invariant-loop-left : goal.invariant-loop-left
invariant-loop-left l = Raising l.initial.weights l.word l.gain l.weights l.left

abbrev pub decreases-loop-left : goal.decreases-loop-left
decreases-loop-left l = l.left
