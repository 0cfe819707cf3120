-- `nth_clause` meets its contract: with each clause that is read one more is passed.
use Rattle.excerpts.proofs.Clauses.{Skipping}
use Rattle.excerpts.proofs.nth_clause.Given as goal

abbrev pub invariant-loop : goal.invariant-loop
invariant-loop l = Skipping l.n l.text l.start l.k l.at l.counter
