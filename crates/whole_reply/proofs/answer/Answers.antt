-- `answer` meets its contract: each case of the budget is the definition's, and 23 comes before 7.
use Prim.Native.Nat.{ℕ}
use mathlib.Core.Path.{◌≡◌, sym, ap, subst, ◌∙◌}
use Rattle.std.specs.Prelude.{Result, Ok, Err}
use Rattle.refusals.specs.declared.Refusal.{Refusal}
use Rattle.solver.specs.declared.Answer.{Answer}
use Rattle.refusals.proofs.Outcomes.{passed_on}
use Rattle.refusals.specs.Checks.{outcome, given}
use Rattle.dimensions.specs.declared.Dimensions.{Dimensions}
use Rattle.tables.specs.Acceptance.{table_checks}
use Rattle.dimacs.specs.ThreeTexts.{ThreeTables, all_read}
use Rattle.lines.specs.Numbers.{budget_of}
use Rattle.reply.specs.Reply.{tables_in}
use Rattle.whole_budget.specs.Applications.{whole_answer}
use Rattle.whole_reply.specs.WholeReply.{ceiling_checks, whole_answered}
use Rattle.whole_reply.proofs.Served.{budget_above, budget_within}
use Rattle.whole_reply.proofs.answer.Goals as goal
use Rattle.whole_reply.proofs.answer.Goals.{In_ok-budget}

-- what the run over these tables gives, by their dimensions
abbrev through : ThreeTables → ℕ → Dimensions → Result Answer Refusal
through t steps d = given (outcome (ceiling_checks d)) (Ok (whole_answer d (tables_in t) steps)) Err

-- the budget of the line
budget : (c : In_ok-budget) → budget_of c.args.line.now ≡ Ok c.in_ok-budget.budget
budget c = sym c.read_budget.ensures.value ∙ c.in_ok-budget.was

pub returns-in_err-budget : goal.returns-in_err-budget
returns-in_err-budget c =
    rw (passed_on _ _ c.from_residual.ensures.1) (ap (whole_answered (all_read c.args.tables)) (sym c.in_err-budget.was ∙ c.read_budget.ensures.value))

pub returns-then-budget-gt-MOST_BUDGET : goal.returns-then-budget-gt-MOST_BUDGET
returns-then-budget-gt-MOST_BUDGET c =
    budget_above (all_read c.args.tables) _ _ (budget (goal.at.returns-then-budget-gt-MOST_BUDGET c).In_ok-budget) c.if-budget-gt-MOST_BUDGET.true

pub go_through-requires : goal.go_through-requires
go_through-requires c =
    record {
      public_value =
          subst (λ (d : Dimensions). outcome (table_checks d (tables_in (all_read c.args.tables))) ≡ Ok tt) (sym c.dimensions_of-d.ensures) c.requires;
      budget_bound = c.if-budget-gt-MOST_BUDGET.false;
    }

pub returns : goal.returns
returns c =
    let t = all_read c.args.tables in
    c.go_through.ensures ∙ ap (through t c.in_ok-budget.budget) c.dimensions_of-d.ensures
    ∙ budget_within t _ _ (budget (goal.at.returns c).In_ok-budget) c.if-budget-gt-MOST_BUDGET.false
