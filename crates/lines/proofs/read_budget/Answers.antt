-- `read_budget` meets its contract: the place found gives the definition's field.
use mathlib.Core.Path.{◌≡◌, sym, ◌∙◌}
use mathlib.Core.Bool.{cond}
use lib.Dec.{leb}
use borrow.Author.Tests.{lt-leb, le-leb}
use Rattle.std.specs.Prelude.{Ok, Err}
use Rattle.refusals.specs.declared.Refusal.TheVariants.{NumberLine}
use Rattle.lines.specs.Numbers.{budget_of}
use Rattle.lines.proofs.Readings.{no_budget, one_budget}
use Rattle.lines.proofs.Said.{budget_said}
use Rattle.lines.proofs.read_budget.Goals as goal
use Rattle.lines.proofs.read_budget.Goals.{In-Some}

budget : (c : In-Some) → budget_of c.args.input.now ≡ cond (leb c.in-Some.end 100)
    (Ok c.in-Some.value) (Err NumberLine)
budget c = one_budget _ _ _ (sym c.field.ensures ∙ c.in-Some.is)

pub returns-in_default : goal.returns-in_default
returns-in_default c =
    let proved = budget_said _ _ (sym (no_budget _ (sym c.field.ensures ∙ c.in_default.is))) in
    record { value = proved.0; result_value = proved.1 }

pub returns-then-end-le-LONGEST : goal.returns-then-end-le-LONGEST
returns-then-end-le-LONGEST c =
    let proved = budget_said _ _ (sym (budget (goal.at.returns-then-end-le-LONGEST c).In-Some ∙ rw (le-leb _ _ c.if-end-le-LONGEST.true))) in
    record { value = proved.0; result_value = proved.1 }

pub returns : goal.returns
returns c =
    let proved = budget_said _ _ (sym (budget (goal.at.returns c).In-Some ∙ rw (lt-leb _ _ c.if-end-le-LONGEST.false))) in
    record { value = proved.0; result_value = proved.1 }
