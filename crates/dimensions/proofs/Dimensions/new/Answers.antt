-- `Dimensions::new` meets its contract: each test of the code is a condition of the definition, in its order.
use mathlib.Core.Path.{◌≡◌, sym, ◌∙◌}
use mathlib.Core.Bool.{Bool, true, false}
use borrow.Author.Rules.{rules}
use borrow.Author.Tests.{lt-ltb, le-ltb}
use Rattle.dimensions.specs.Sizes.{outside}
use Rattle.dimensions.proofs.Limits.{with-said, most, refuse_variables, refuse_left, refuse_right, refuse_public, take-size}
use Rattle.dimensions.proofs.Dimensions.new.Goals as goal
use Rattle.dimensions.proofs.Dimensions.new.Goals.{After-variables_outside}

-- what the first test says of n
tested : (c : After-variables_outside) (b : Bool) → c.variables_outside.result ≡ b → outside 32 c.args.n ≡ b
tested c b e = sym c.variables_outside.ensures ∙ e

pub returns-then-variables_outside : goal.returns-then-variables_outside
returns-then-variables_outside c =
    let a = c.args in
    let proved = with-said a.n a.left a.right a.public _
    (refuse_variables a.n a.left a.right a.public (tested (goal.at.returns-then-variables_outside c).After-variables_outside true
    c.if-variables_outside.true)) in
    record { value = proved.0; result_value = proved.1 }

pub returns-then-left : goal.returns-then-left
returns-then-left c =
    let a = c.args in
    let proved = with-said a.n a.left a.right a.public _
    (refuse_left a.n a.left a.right a.public (tested (goal.at.returns-then-left c).After-variables_outside false c.if-variables_outside.false)
    c.if-left.true) in
    record { value = proved.0; result_value = proved.1 }

pub returns-then-right : goal.returns-then-right
returns-then-right c =
    let a = c.args in
    let proved = with-said a.n a.left a.right a.public _
    (refuse_right a.n a.left a.right a.public (tested (goal.at.returns-then-right c).After-variables_outside false c.if-variables_outside.false) c.if-left.false
    c.if-right.true) in
    record { value = proved.0; result_value = proved.1 }

pub returns-then-public-gt-ROWS : goal.returns-then-public-gt-ROWS
returns-then-public-gt-ROWS c =
    let a = c.args in
    let proved = with-said a.n a.left a.right a.public _
    (refuse_public a.n a.left a.right a.public (tested (goal.at.returns-then-public-gt-ROWS c).After-variables_outside false c.if-variables_outside.false)
    c.if-left.false c.if-right.false
    (lt-ltb 128 a.public c.if-public-gt-ROWS.true)) in
    record { value = proved.0; result_value = proved.1 }

pub overflow_cast-result : goal.overflow_cast-result
overflow_cast-result c =
    search (rules, most 32 c.args.n (tested (goal.at.overflow_cast-result c).After-variables_outside false c.if-variables_outside.false))

pub overflow_cast-result-2 : goal.overflow_cast-result-2
overflow_cast-result-2 c = search (rules, most 128 c.args.left c.if-left.false)

pub overflow_cast-result-3 : goal.overflow_cast-result-3
overflow_cast-result-3 c = search (rules, most 128 c.args.right c.if-right.false)

pub returns : goal.returns
returns c =
    let a = c.args in
    let proved = with-said a.n a.left a.right a.public _
    (take-size a.n a.left a.right a.public (tested (goal.at.returns c).After-variables_outside false c.if-variables_outside.false) c.if-left.false
    c.if-right.false
    (le-ltb 128 a.public c.if-public-gt-ROWS.false)) in
    record { value = proved.0; result_value = proved.1 }
