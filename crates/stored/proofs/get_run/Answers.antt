-- `get_run` meets its contract: its parts are the words and those of its callees.
use lib.ListN.{get_or}
use Rattle.stored.specs.Words.{held_run}
use Rattle.stored.proofs.Holding.{held-n}
use Rattle.stored.proofs.get_run.Goals as goal

pub overflow_cast-result : goal.overflow_cast-result
overflow_cast-result c = record { fits = held-n c.args.words c.requires }

pub returns : goal.returns
unfolding held_run
returns c =
    let words = c.args.words in
    λ i. record {
      n = get_or words 0 0;
      standing = c.standing_of-standing.ensures i;
      t = get_or words 2 0;
      f = get_or words 3 0;
      depth = get_or words 4 0;
      levels = c.get_levels-levels.ensures i;
    }
