-- `after` meets its contract: the sets are those of its calls.
use Rattle.tally.proofs.Gathering.{after_is}
use Rattle.tally.proofs.setting.after.Goals as goal

pub returns : goal.returns
returns c = after_is _ _ _ _ _ _ _ _ _ c.without-still.ensures c.holding-look.ensures c.gather.ensures
