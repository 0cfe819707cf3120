-- `stands_in` meets its contract word by word.
use mathlib.Core.Bool.{◌||◌}
use Rattle.tally.proofs.ruling.stands_in.Goals as goal

pub returns : goal.returns
returns c =
    let e = c.touched.ensures in
    λ i. e i || c.touched-2.ensures i || c.touched-3.ensures i || c.touched-4.ensures i || c.touched-5.ensures i || c.touched-6.ensures i
