-- `size` meets its contract: a count of ones counts the rows below 64.
use mathlib.Core.Path.{sym}
use native.Mathlib.Omega.{arith}
use lib.Count.{ones-le}
use Rattle.words.proofs.Operations.{count_word}
use Rattle.tally.proofs.rows.size.Goals as goal

pub returns : goal.returns
returns c = (sym (count_word 64 c.args.set (omega arith)), ones-le 64 c.args.set (omega arith))
