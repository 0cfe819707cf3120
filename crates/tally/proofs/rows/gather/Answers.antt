-- `gather` meets its contract by what the rows looked at show and the number of those unsatisfied.
use Rattle.tally.proofs.Gathering.{gather_is}
use Rattle.tally.proofs.rows.gather.Goals as goal

pub returns : goal.returns
returns c = gather_is _ _ _ _ _ _ _ _ c.with_set-shown.ensures c.number.ensures
