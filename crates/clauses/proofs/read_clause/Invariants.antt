-- `read_clause` meets its contract: the token at hand and what follows it end the clause begun at `start`.
use Prim.Native.Nat.{◌-◌}
use lib.ListN.{length}
use Rattle.clauses.proofs.Reading.{Begun}
use Rattle.clauses.proofs.read_clause.Given as goal

abbrev pub invariant-loop-minus : goal.invariant-loop-minus
invariant-loop-minus l = Begun l.n l.text l.at l.start l.row l.from l.to

abbrev pub decreases-loop-minus : goal.decreases-loop-minus
decreases-loop-minus l = length l.text - l.to
