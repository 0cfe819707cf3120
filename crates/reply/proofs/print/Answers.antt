-- `print` meets its contract: each case is its callee's.
use mathlib.Core.Path.{sym, ap, ◌∙◌}
use Prim.Native.Nat.{min}
use Rattle.std.specs.Prelude.{Result}
use Rattle.refusals.specs.declared.Refusal.{Refusal}
use Rattle.solver.specs.declared.Answer.{Answer}
use Rattle.text.specs.Texts.{text_of}
use Rattle.answers.specs.Printed.{solved_text}
use Rattle.reply.proofs.print.Goals as goal

pub returns-in-Ok : goal.returns-in-Ok
returns-in-Ok c =
    c.answer_text.ensures
    ∙ ap (λ (s : Result Answer Refusal). text_of (solved_text (min c.args.n 32) s)) (sym c.in-Ok.is)

pub returns-in-Err : goal.returns-in-Err
returns-in-Err c =
    c.refusal_text.ensures
    ∙ ap (λ (s : Result Answer Refusal). text_of (solved_text (min c.args.n 32) s)) (sym c.in-Err.is)
