-- `forkhemit_solve_weighted` meets its contract: the weighted run is that of the numbers as bytes, and what it gives is given on.
use mathlib.Core.Path.{ap, ◌∙◌}
use Rattle.std.specs.Prelude.{Result}
use Rattle.refusals.specs.declared.Refusal.{Refusal}
use Rattle.solver.specs.declared.Answer.{Answer}
use Rattle.solver.specs.Entries.{solved_code, solved_numbers}
use Rattle.lent.specs.Lent.{numbers_or}
use Rattle.host_weighted.proofs.forkhemit_solve_weighted.Goals as goal

pub returns : goal.returns
returns c =
    let answer = c.args.answer.now in
    let gave = rw c.dimensions-d.ensures at c.solve_weighted.ensures.value in record {
      value = c.give.ensures.value ∙ ap solved_code gave;
      answer_after = c.give.ensures.answer_after ∙ ap (λ (x : Result Answer Refusal). numbers_or (solved_numbers x) answer) gave;
    }
