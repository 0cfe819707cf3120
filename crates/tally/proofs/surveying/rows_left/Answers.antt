-- `rows_left` meets its contract: none of rows past the count, and else by what is seen.
use Rattle.tally.proofs.SeenLaws.{left-none, left_is}
use Rattle.tally.proofs.surveying.rows_left.Goals as goal

pub returns-then-rows-eq0 : goal.returns-then-rows-eq0
returns-then-rows-eq0 c =
    let x = c.args in
    left-none x.index.now x.count x.t x.f x.w _ c.below-rows.ensures c.if-rows-eq0.true

pub returns : goal.returns
returns c =
    let x = c.args in
    left_is x.index.now x.count x.t x.f x.w _ _ c.below-rows.ensures c.look-seen.ensures
