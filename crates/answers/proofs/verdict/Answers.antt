-- `verdict` meets its contract: the appends are one, and the verdict picks the definition's case.
use mathlib.Core.Path.{sym, ap, ◌∙◌}
use Rattle.text.specs.Texts.{appended}
use Rattle.verdicts.specs.declared.Verdict.{Verdict}
use Rattle.answers.specs.Printed.{verdict_text}
use Rattle.answers.proofs.Composing.{satisfiable_composed}
use Rattle.answers.proofs.verdict.Goals as goal

pub returns-in-Satisfiable : goal.returns-in-Satisfiable
returns-in-Satisfiable c =
    let start = c.args in
    satisfiable_composed start.text c.append.result c.literals.result c.append-in-Satisfiable.result start.n c.in-Satisfiable.model
    c.append.ensures c.literals.ensures c.append-in-Satisfiable.ensures
    ∙ ap (λ (v : Verdict). appended start.text (verdict_text start.n v)) (sym c.in-Satisfiable.is)

pub returns-in-Unsatisfiable : goal.returns-in-Unsatisfiable
returns-in-Unsatisfiable c =
    let start = c.args in
    c.append-in-Unsatisfiable.ensures ∙ ap (λ (v : Verdict). appended start.text (verdict_text start.n v)) (sym c.in-Unsatisfiable.is)

pub returns-in-Unknown : goal.returns-in-Unknown
returns-in-Unknown c =
    let start = c.args in
    c.append-in-Unknown.ensures ∙ ap (λ (v : Verdict). appended start.text (verdict_text start.n v)) (sym c.in-Unknown.is)
