-- `forkhemit_read_budget` meets its contract: the budget of the line, written where there is one.
use mathlib.Core.Path.{sym, ap, ◌∙◌}
use Rattle.std.specs.Prelude.{ℕ, Result}
use Rattle.refusals.specs.declared.Refusal.{Refusal}
use Rattle.lines.specs.Numbers.{budget_code, budget_numbers}
use Rattle.lent.specs.Lent.{numbers_or}
use Rattle.host_lines.proofs.forkhemit_read_budget.Goals as goal

pub returns-in-Ok : goal.returns-in-Ok
returns-in-Ok c =
    let told = c in
    let read = told in
    let a = read.args in
    let is = sym told.in-Ok.is ∙ read.read_budget.ensures.value in
    record { value = ap budget_code is; budget_after = ap (λ (b : Result ℕ Refusal). numbers_or (budget_numbers b) a.budget.now) is }

pub returns-in-Err : goal.returns-in-Err
returns-in-Err c =
    let told = c in
    let read = told in
    let a = read.args in
    let is = sym told.in-Err.is ∙ read.read_budget.ensures.value in
    record { value = c.from.ensures ∙ ap budget_code is; budget_after = ap (λ (b : Result ℕ Refusal). numbers_or (budget_numbers b) a.budget.now) is }
