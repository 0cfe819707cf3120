-- `lowest` meets its contract: the zeros below a word's lowest digit are as many as that digit's place.
use mathlib.Core.Path.{sym}
use native.Mathlib.Omega.{arith}
use Rattle.words.proofs.Operations.{lowest_trailing}
use Rattle.words.proofs.lowest.Goals as goal

pub returns : goal.returns
returns c = sym (lowest_trailing 32 c.args.word (omega arith))
