-- `give` meets its contract: by the two cases of the result, verdict and model being the callees'.
use mathlib.Core.Path.{sym, ap, ◌∙◌}
use mathlib.Core.List.{[], ◌∷◌}
use Rattle.std.specs.Prelude.{Result}
use Rattle.refusals.specs.declared.Refusal.{Refusal}
use Rattle.solver.specs.declared.Answer.{Answer}
use Rattle.solver.specs.Entries.{solved_code, solved_numbers}
use Rattle.lent.specs.Lent.{numbers_or}
use Rattle.host_solve.proofs.give.Goals as goal

pub returns-in-Ok : goal.returns-in-Ok
returns-in-Ok c =
    let is = sym c.in-Ok.is in record {
      value = ap solved_code is;
      answer_after = (λ i. c.in-Ok.given.count ∷ (c.verdict_number.ensures i ∷ (c.model_word.ensures i ∷ [])))
          ∙ ap (λ (s : Result Answer Refusal). numbers_or (solved_numbers s) c.args.answer.now) is;
    }

pub returns-in-Err : goal.returns-in-Err
returns-in-Err c =
    let is = sym c.in-Err.is in record {
      value = c.from.ensures ∙ ap solved_code is;
      answer_after = ap (λ (s : Result Answer Refusal). numbers_or (solved_numbers s) c.args.answer.now) is;
    }
