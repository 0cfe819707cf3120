-- `words` meets its contract: five stores and the levels' are the stores of the run's words.
use mathlib.Core.Path.{◌≡◌, refl}
use borrow.Author.Rules.{rules}
use lib.ListN.{replicate, length}
use Rattle.stored.proofs.Storing.{stored-all}
use Rattle.stored.proofs.words.Goals as goal

pub returns : goal.returns
returns c =
    let levels : length c.args.run.levels ≡ 32 = search rules in
    stored-all c.args.run (replicate 101 0) levels refl _ _ _ c.from.ensures
    c.depth_word.ensures c.put_levels.ensures
