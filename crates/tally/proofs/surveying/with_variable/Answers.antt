-- `with_variable` meets its contract, row by row of the 64.
use native.Mathlib.Omega.{arith}
use Rattle.tally.proofs.SeenLaws.{with-is}
use Rattle.tally.proofs.surveying.with_variable.Goals as goal

pub returns : goal.returns
returns c =
    let x = c.args in
    with-is x.s x.in_t x.in_f x.positive x.negative (omega arith) (omega arith) (omega arith) (omega arith) (omega arith)
    c.only_if-free.ensures c.only_if.ensures c.only_if-2.ensures
