-- `lowest` meets its contract: the zeros below a set's lowest row are as many as that row's place.
use mathlib.Core.Path.{sym}
use native.Mathlib.Omega.{arith}
use Rattle.words.proofs.Operations.{lowest_trailing}
use Rattle.tally.proofs.rows.lowest.Goals as goal

pub returns : goal.returns
returns c = sym (lowest_trailing 64 c.args.set (omega arith))
