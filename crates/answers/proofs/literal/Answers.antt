-- `literal` meets its contract: two appends are one, and the sign picks the definition's case.
use mathlib.Core.Path.{sym, ap, ◌∙◌}
use mathlib.Core.Bool.{Bool}
use Rattle.lexer.specs.Spelling.{bytes}
use Rattle.text.specs.Texts.{appended}
use Rattle.text.specs.Decimal.{decimal}
use Rattle.text.proofs.Appending.{appended_then}
use Rattle.answers.specs.Printed.{literal_text}
use Rattle.answers.proofs.literal.Goals as goal

pub returns-then-positive : goal.returns-then-positive
returns-then-positive c =
    let start = c.args in
    appended_then start.text (bytes " ") (decimal start.variable) c.append.result c.decimal.result
    c.append.ensures c.decimal.ensures
    ∙ ap (λ (b : Bool). appended start.text (literal_text start.variable b)) (sym c.if-positive.true)

pub returns-else-positive : goal.returns-else-positive
returns-else-positive c =
    let start = c.args in
    appended_then start.text (bytes " -") (decimal start.variable) c.append-else-positive.result c.decimal-else-positive.result
    c.append-else-positive.ensures c.decimal-else-positive.ensures
    ∙ ap (λ (b : Bool). appended start.text (literal_text start.variable b)) (sym c.if-positive.false)
