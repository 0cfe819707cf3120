-- `touched` meets its contract, row by row of the 64.
use native.Mathlib.Omega.{arith}
use Rattle.tally.proofs.RulingLaws.{touched_is}
use Rattle.tally.proofs.ruling.touched.Goals as goal

pub returns : goal.returns
returns c = touched_is _ _ _ (omega arith)
