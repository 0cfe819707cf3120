-- `continue_indexed` meets its contract: the outcome of the checks decides, and a run that passes them goes on by the index.
use mathlib.Core.Path.{sym, ◌∙◌}
use Rattle.refusals.proofs.Outcomes.{passed_on}
use Rattle.tables.specs.Tables.{Tables, words_in}
use Rattle.indexed.proofs.Continuing.{continue-taken, continue-refused}
use Rattle.indexed.proofs.continue_indexed.Goals as goal
use Rattle.indexed.proofs.continue_indexed.Goals.{Start}

-- the tables at the start
abbrev tables : Start → Tables
tables s = words_in s.args.tables

pub returns-in_err-check_all : goal.returns-in_err-check_all
returns-in_err-check_all c =
    rw (passed_on _ _ c.from_residual.ensures.1) (let proved = continue-refused c.args.d
    (tables (goal.at.returns-in_err-check_all c).Start) c.args.times c.args.run.now c.in_err-check_all.field-0.0
    (sym c.in_err-check_all.was ∙ c.check_all.ensures.value) in
    record { value = proved.0; run_after = proved.1; result_value = proved.2 })

pub returns : goal.returns
returns c =
    let proved = continue-taken c.args.d (tables (goal.at.returns c).Start) c.args.times c.args.run.now
    (sym c.in_ok-check_all.was ∙ c.check_all.ensures.value) _ c.run_accepted-reached.ensures _ c.closed.ensures in
    record { value = proved.0; run_after = proved.1; result_value = proved.2 }
