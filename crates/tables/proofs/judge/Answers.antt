-- `judge` meets its contract: each operation on words is the definition's test on variables, and a row has at most 64 literals.
use native.Mathlib.Omega.{arith}
use Rattle.tables.proofs.Judging.{literals-few, judged-words}
use Rattle.tables.proofs.judge.Goals as goal

pub overflow_add-literals : goal.overflow_add-literals
overflow_add-literals c =
    let a = c.args in
    let few = literals-few a.row a.t a.f (omega arith) (omega arith) (omega arith) (omega arith) _ _
    c.count.ensures c.count-2.ensures in
    record { fits = omega (arith, few) }

pub returns : goal.returns
returns c =
    let a = c.args in
    judged-words a.row a.t a.f (omega arith) (omega arith) (omega arith) (omega arith) _ _ c.count.ensures c.count-2.ensures
    _ _ _ c.lowest_or.ensures c.lowest_or-2.ensures c.lowest_or-look.ensures
