-- `turn_row` meets its contract. The loop's invariant: turning the literals left gives what turning all of them gives. The measure is their word.
use Rattle.occurrences.proofs.Turning.{Turning}
use Rattle.occurrences.proofs.turn_row.Given as goal

abbrev pub invariant-loop-left : goal.invariant-loop-left
invariant-loop-left l = Turning l.initial.index l.literals l.row l.index l.left

abbrev pub decreases-loop-left : goal.decreases-loop-left
decreases-loop-left l = l.left
