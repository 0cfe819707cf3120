-- `unsatisfied` meets its contract: the checks of tables and run decide, in order.
use mathlib.Core.Path.{sym, ◌∙◌}
use Rattle.refusals.proofs.Outcomes.{passed_on}
use Rattle.tables.specs.Tables.{Tables, words_in}
use Rattle.solver.proofs.Entries.{refuse_tables, state_decides}
use Rattle.indexed.proofs.Entries.{count-taken, count-refused}
use Rattle.indexed.proofs.unsatisfied.Goals as goal
use Rattle.indexed.proofs.unsatisfied.Goals.{Start}

-- the tables at the start
abbrev tables : Start → Tables
tables s = words_in s.args.tables

pub returns-in_err-accept : goal.returns-in_err-accept
returns-in_err-accept c =
    rw (passed_on _ _ c.from_residual.ensures.1) (let proved = count-refused c.args.d (tables (goal.at.returns-in_err-accept c).Start) c.args.run _
    (refuse_tables c.args.d (tables (goal.at.returns-in_err-accept c).Start) c.args.run c.in_err-accept.field-0.0
    (sym c.in_err-accept.was ∙ c.accept.ensures.value)) in
    record { value = proved.0; result_value = proved.1 })

pub returns-in_err-check_state : goal.returns-in_err-check_state
returns-in_err-check_state c =
    rw (passed_on _ _ c.from_residual-in_err-check_state.ensures.1)
    (let proved = count-refused c.args.d (tables (goal.at.returns-in_err-check_state c).Start) c.args.run c.in_err-check_state.field-0.0
    (sym c.in_err-check_state.was ∙ c.check_state.ensures.value
    ∙ state_decides c.args.d (tables (goal.at.returns-in_err-check_state c).Start) c.args.run (sym c.in_ok-accept.was ∙ c.accept.ensures.value)) in
    record { value = proved.0; result_value = proved.1 })

pub count_unsatisfied-requires : goal.count_unsatisfied-requires
count_unsatisfied-requires c =
    sym c.accept.ensures.value ∙ c.in_ok-accept.was

pub returns : goal.returns
returns c =
    let proved = count-taken c.args.d (tables (goal.at.returns c).Start) c.args.run
    (sym c.in_ok-check_state.was ∙ c.check_state.ensures.value
    ∙ state_decides c.args.d (tables (goal.at.returns c).Start) c.args.run (sym c.in_ok-accept.was ∙ c.accept.ensures.value))
    _ c.count_unsatisfied.ensures in
    record { value = proved.0; result_value = proved.1 }
