-- `with_set` meets its contract word by word.
use Rattle.tally.proofs.Gathering.{set_is}
use Rattle.tally.proofs.rows.with_set.Goals as goal

pub returns : goal.returns
returns c =
    set_is _ _ _ _ c.with_rows-s0.ensures c.with_rows-s1.ensures c.with_rows-s2.ensures c.with_rows-s3.ensures c.with_rows-s4.ensures
    c.with_rows.ensures
