-- `continue_weighted` meets its contract: the outcome of the checks decides, and a run that passes them goes on by the index.
use mathlib.Core.Path.{sym, ap, ◌∙◌}
use Rattle.refusals.proofs.Outcomes.{passed_on}
use Rattle.tables.specs.Tables.{Tables, words_in}
use Rattle.indexed.proofs.Continuing.{says, continue-taken-with, continue-refused-with}
use Rattle.weighted.specs.Weights.{weighted_rule}
use Rattle.weighted.proofs.continue_weighted.Goals as goal
use Rattle.weighted.proofs.continue_weighted.Goals.{Start}

-- the tables at the start
abbrev tables : Start → Tables
tables s = words_in s.args.tables

pub returns-in_err-check_all : goal.returns-in_err-check_all
returns-in_err-check_all c =
    rw (passed_on _ _ c.from_residual.ensures.1) (let proved = continue-refused-with weighted_rule c.args.d
    (tables (goal.at.returns-in_err-check_all c).Start) c.args.times c.args.run.now c.in_err-check_all.field-0.0
    (sym c.in_err-check_all.was ∙ c.check_all.ensures.value) in
    record { value = proved.0; run_after = proved.1; result_value = proved.2 })

pub returns : goal.returns
returns c =
    let e = c.run_accepted.ensures in
    let proved = continue-taken-with weighted_rule c.args.d (tables (goal.at.returns c).Start) c.args.times c.args.run.now
    (sym c.in_ok-check_all.was ∙ c.check_all.ensures.value) in
    record { value = e.value ∙ proved.0; run_after = e.run_after ∙ proved.1; result_value = ap says e.value ∙ proved.2 }
