-- `with_rows` meets its contract: what was shown and what is left to look at give what the whole set gives. The measure is what is left.
use Rattle.words.specs.Sets.{bit, count}
use Rattle.tally.proofs.Looking.{Looked}
use Rattle.tally.proofs.rows.with_rows.Given as goal

abbrev pub invariant-loop-left : goal.invariant-loop-left
invariant-loop-left l = Looked l.words l.first l.set l.unset l.initial.shown l.left l.shown

abbrev pub decreases-loop-left : goal.decreases-loop-left
decreases-loop-left l = count (bit l.left) 64
