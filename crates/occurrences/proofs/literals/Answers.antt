-- `literals` meets its contract: the negative word shifted above the positive one.
use native.Mathlib.Omega.{arith}
use Rattle.occurrences.proofs.Joined.{joined_is}
use Rattle.occurrences.proofs.literals.Goals as goal

pub returns : goal.returns
returns c = joined_is c.args.row (omega arith) (omega arith)
