-- `follows` meets its contract: a variable in both signs is a bit that both words have.
use native.Mathlib.Omega.{arith}
use Rattle.scan.specs.Rules.{rows_of_words}
use Rattle.propagation.proofs.BothSigns.{both_signs, one-sign_apart, one-sign}
use Rattle.propagation.proofs.follows.Goals as goal

pub returns-then-clause-ne0 : goal.returns-then-clause-ne0
returns-then-clause-ne0 c =
    let a = c.args in both_signs (rows_of_words a.rows.now) a.clause (omega arith) c.if-clause-ne0.true

pub reaches-requires : goal.reaches-requires
reaches-requires c =
    let a = c.args in
    one-sign_apart (rows_of_words a.rows.now) a.clause (omega arith) c.if-clause-ne0.false

pub returns : goal.returns
returns c =
    let a = c.args in
    one-sign (rows_of_words a.rows.now) a.clause (omega arith) c.if-clause-ne0.false c.reaches.result c.reaches.ensures
