-- `reaches` meets its contract. The loop's invariant: what can be reached is the same as at the start. Each pass leaves fewer variables free.
use Rattle.scan.specs.Rules.{rows_of_words}
use Rattle.propagation.proofs.Confluence.{unset}
use Rattle.propagation.proofs.Passes.{Same}
use Rattle.propagation.proofs.reaches.Given as goal

abbrev pub invariant-loop-next : goal.invariant-loop-next
invariant-loop-next l = Same (rows_of_words l.rows) l.fn.t l.fn.f l.t l.f

abbrev pub decreases-loop-next : goal.decreases-loop-next
decreases-loop-next l = unset l.t l.f
