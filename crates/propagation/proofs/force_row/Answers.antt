-- `force_row` meets its contract: one law for each way that a row goes.
use Rattle.propagation.proofs.RowPass.{row-satisfied, row_conflict, row_open, row-true, row-false}
use Rattle.propagation.proofs.force_row.Goals as goal

pub returns-then-satisfied : goal.returns-then-satisfied
returns-then-satisfied c = let a = c.args in row-satisfied a.row a.t a.f c.judge-judged.result c.judge-judged.ensures c.if-satisfied.true

pub returns-then-variables-eq0 : goal.returns-then-variables-eq0
returns-then-variables-eq0 c =
    let a = c.args in
    row_conflict a.row a.t a.f c.judge-judged.result c.judge-judged.ensures c.if-satisfied.false c.if-variables-eq0.true

pub returns-then-not-single : goal.returns-then-not-single
returns-then-not-single c =
    let a = c.args in
    row_open a.row a.t a.f c.judge-judged.result c.judge-judged.ensures c.if-satisfied.false c.if-variables-eq0.false
    c.single.result c.single.ensures c.if-not-single.true

pub returns-then-bit : goal.returns-then-bit
returns-then-bit c =
    let a = c.args in
    row-true a.row a.t a.f c.judge-judged.result c.judge-judged.ensures c.if-satisfied.false c.if-variables-eq0.false
    c.single.result c.single.ensures c.if-not-single.false c.lowest-v.result c.lowest-v.ensures
    c.put.result c.bit.result c.bit.ensures c.if-bit.true c.put.ensures

pub returns : goal.returns
returns c =
    let a = c.args in
    row-false a.row a.t a.f c.judge-judged.result c.judge-judged.ensures c.if-satisfied.false c.if-variables-eq0.false
    c.single.result c.single.ensures c.if-not-single.false c.lowest-v.result c.lowest-v.ensures
    c.put-2.result c.bit.result c.bit.ensures c.if-bit.false c.put-2.ensures
