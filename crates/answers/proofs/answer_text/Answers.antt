-- `answer_text` meets its contract: five appends are one, of the lesser of n and 32 variables.
use mathlib.Core.Path.{ap, ◌∙◌}
use Prim.Native.Nat.{ℕ}
use native.Mathlib.Omega.{arith}
use Rattle.text.specs.Texts.{text_of}
use Rattle.answers.specs.Printed.{answer_text}
use Rattle.answers.proofs.Composing.{answer_composed}
use Rattle.answers.proofs.answer_text.Goals as goal

pub returns : goal.returns
returns c =
    answer_composed c.min.result c.args.given
    c.empty.result c.append.result c.decimal.result c.append-steps.result c.verdict.result (omega arith)
    c.empty.ensures c.append.ensures c.decimal.ensures c.append-steps.ensures c.verdict.ensures
    ∙ ap (λ (k : ℕ). text_of (answer_text k c.args.given)) c.min.ensures
