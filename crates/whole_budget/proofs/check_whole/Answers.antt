-- `check_whole` meets its contract: tables and words first, then the budget, then room.
use mathlib.Core.Path.{◌≡◌, sym, ◌∙◌}
use Rattle.refusals.proofs.Outcomes.{passed_on}
use Rattle.std.specs.Prelude.{Ok}
use Rattle.refusals.specs.Checks.{outcome}
use Rattle.tables.specs.Tables.{Tables, words_in}
use Rattle.repeats.specs.Repeating.{generation_checks}
use Rattle.whole_budget.proofs.WholeChecks.{refuse_words, refuse_budget, room_decides}
use Rattle.whole_budget.proofs.check_whole.Goals as goal
use Rattle.whole_budget.proofs.check_whole.Goals.{In_ok-check_words, Start}

-- ---- what is known there

abbrev tables : Start → Tables
tables s = words_in s.args.tables

taken : (c : In_ok-check_words) → outcome (generation_checks c.args.d (tables (goal.at.In_ok-check_words c).Start) c.args.gates) ≡ Ok tt
taken c = sym c.check_words.ensures.value ∙ c.in_ok-check_words.was

pub returns-in_err-check_words : goal.returns-in_err-check_words
returns-in_err-check_words c =
    rw (passed_on _ _ c.from_residual.ensures.1) (refuse_words c.args.d (tables (goal.at.returns-in_err-check_words c).Start) c.args.budget c.args.gates
    c.args.bytes c.args.wires _
    (sym c.check_words.ensures.value ∙ c.in_err-check_words.was))

pub returns-then-budget-gt-MOST_BUDGET : goal.returns-then-budget-gt-MOST_BUDGET
returns-then-budget-gt-MOST_BUDGET c =
    refuse_budget c.args.d (tables (goal.at.returns-then-budget-gt-MOST_BUDGET c).Start) c.args.budget c.args.gates c.args.bytes c.args.wires
    (taken (goal.at.returns-then-budget-gt-MOST_BUDGET c).In_ok-check_words) c.if-budget-gt-MOST_BUDGET.true

pub returns : goal.returns
returns c =
    c.check_room.ensures.value
    ∙ room_decides c.args.d (tables (goal.at.returns c).Start) c.args.budget c.args.gates c.args.bytes c.args.wires
    (taken (goal.at.returns c).In_ok-check_words)
    c.if-budget-gt-MOST_BUDGET.false
