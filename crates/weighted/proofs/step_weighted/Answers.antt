-- `step_weighted` meets its contract: the checks of tables and run decide, and what they take advances.
use mathlib.Core.Path.{refl, sym, ◌∙◌}
use Rattle.refusals.proofs.Outcomes.{passed_on}
use Rattle.tables.specs.Tables.{Tables, words_in}
use Rattle.solver.proofs.Entries.{passed, step-taken-with, step-refused-with, step-said-with}
use Rattle.weighted.specs.Weights.{weighted_rule}
use Rattle.weighted.proofs.step_weighted.Goals as goal
use Rattle.weighted.proofs.step_weighted.Goals.{Start}

-- the tables at the start
abbrev tables : Start → Tables
tables s = words_in s.args.tables

pub returns-in_err-check_all : goal.returns-in_err-check_all
returns-in_err-check_all c =
    let lent = tables (goal.at.returns-in_err-check_all c).Start in
    rw (passed_on _ _ c.from_residual.ensures.1) (let proved = step-said-with weighted_rule c.args.d lent c.args.run.now
    (step-refused-with weighted_rule c.args.d lent c.args.run.now _ (sym c.in_err-check_all.was ∙ c.check_all.ensures.value) _ refl) in
    record { value = proved.0; run_after = proved.1; result_value = proved.2 })

pub advance-requires : goal.advance-requires
advance-requires c =
    let p = passed c.args.d (tables (goal.at.advance-requires c).Start) c.args.run.now _ c.check_all.ensures.value c.in_ok-check_all.was in
    record { public_value = p.taken; run_value = p.formed; n_value = p.same }

pub returns : goal.returns
returns c =
    let lent = tables (goal.at.returns c).Start in
    let proved = step-said-with weighted_rule c.args.d lent c.args.run.now
    (step-taken-with weighted_rule c.args.d lent c.args.run.now _ (sym c.in_ok-check_all.was ∙ c.check_all.ensures.value) refl _ c.advance.ensures) in
    record { value = proved.0; run_after = proved.1; result_value = proved.2 }
