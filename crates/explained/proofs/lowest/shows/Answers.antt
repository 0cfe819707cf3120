-- `shows` meets its contract: each rule's test is made from the row judged.
use Rattle.explained.proofs.Showing.{judged-with, judged-forces}
use Rattle.explained.proofs.lowest.shows.Goals as goal

pub returns-in-Conflict : goal.returns-in-Conflict
returns-in-Conflict c =
    let a = c.args in
    rw c.in-Conflict.is (judged-with a.row a.t a.f c.judge-judged.result c.judge-judged.ensures 0)

pub returns-in-Unit : goal.returns-in-Unit
returns-in-Unit c =
    let a = c.args in
    rw c.in-Unit.is
    (judged-forces a.row a.t a.f c.judge-judged.result c.judge-judged.ensures c.in-Unit.variable c.in-Unit.positive c.bit-is_set.result c.holds.result
    c.bit-is_set.ensures c.holds.ensures)
