-- `read_rows` meets its contract: with each clause one row more is filled in.
use Rattle.dimacs.proofs.Fill.{Filling}
use Rattle.dimacs.proofs.read_rows.Given as goal

abbrev pub invariant-loop-k : goal.invariant-loop-k
invariant-loop-k l = Filling l.n l.m l.text l.start l.words l.at l.k
