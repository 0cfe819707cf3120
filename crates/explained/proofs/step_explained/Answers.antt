-- `step_explained` meets its contract: the plain step's outcome decides.
use Rattle.refusals.proofs.Outcomes.{passed_on}
use Rattle.tables.specs.Tables.{Tables, words_in}
use Rattle.solver.proofs.Entries.{passed}
use Rattle.explained.proofs.Entry.{passed_checks, explained-taken, explained-refused}
use Rattle.explained.proofs.step_explained.Goals as goal
use Rattle.explained.proofs.step_explained.Goals.{Start}

-- the tables at the start
abbrev tables : Start → Tables
tables s = words_in s.args.tables

pub returns-in_err-step : goal.returns-in_err-step
returns-in_err-step c =
    rw (passed_on _ _ c.from_residual.ensures.1) (let proved = explained-refused c.args.d (tables (goal.at.returns-in_err-step c).Start) c.args.run.now
    _ c.step.ensures.value _ c.step.ensures.run_after c.in_err-step.field-0.0 c.in_err-step.was in
    record { value = proved.0; run_after = proved.1; result_value = proved.2 })

pub explain-requires : goal.explain-requires
explain-requires c =
    let lent = tables (goal.at.explain-requires c).Start in
    let p = passed c.args.d lent c.args.run.now _ (passed_checks c.args.d lent c.args.run.now _ c.step.ensures.value) c.in_ok-step.was in
    record { public_value = p.taken; run_value = p.formed }

pub returns : goal.returns
returns c =
    let proved = explained-taken c.args.d (tables (goal.at.returns c).Start) c.args.run.now _ c.step.ensures.value _ c.step.ensures.run_after
    c.in_ok-step.was c.explain.result c.explain.ensures in
    record { value = proved.0; run_after = proved.1; result_value = proved.2 }
