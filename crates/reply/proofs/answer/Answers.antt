-- `answer` meets its contract: the line's refusal, or the run over the tables.
use mathlib.Core.Path.{sym, ap, ◌∙◌}
use Rattle.refusals.proofs.Outcomes.{passed_on}
use Rattle.dimacs.specs.ThreeTexts.{all_read}
use Rattle.dimensions.specs.declared.Dimensions.{Dimensions}
use Rattle.solver.specs.Entries.{solved}
use Rattle.reply.specs.Reply.{tables_in, answered}
use Rattle.reply.proofs.answer.Goals as goal

pub returns-in_err-budget : goal.returns-in_err-budget
returns-in_err-budget c =
    rw (passed_on _ _ c.from_residual.ensures.1) (ap (answered (all_read c.args.tables)) (sym c.in_err-budget.was ∙ c.read_budget.ensures.value))

pub returns : goal.returns
returns c =
    let t = all_read c.args.tables in
    c.solve_indexed.ensures.value ∙ ap (λ (d : Dimensions). solved d (tables_in t) c.in_ok-budget.budget) c.dimensions_of-d.ensures
    ∙ ap (answered t) (sym c.in_ok-budget.was ∙ c.read_budget.ensures.value)
