-- `check_all` meets its contract: the checks of the tables come first.
use mathlib.Core.Path.{sym, ◌∙◌}
use Rattle.refusals.proofs.Outcomes.{outcome-said, passed_on}
use Rattle.tables.specs.Tables.{Tables, words_in}
use Rattle.solver.proofs.Entries.{refuse_tables, state_decides}
use Rattle.solver.proofs.check_all.Goals as goal
use Rattle.solver.proofs.check_all.Goals.{Start}

-- the tables at the start
abbrev tables : Start → Tables
tables s = words_in s.args.tables

pub returns-in_err-accept : goal.returns-in_err-accept
returns-in_err-accept c =
    rw (passed_on _ _ c.from_residual.ensures.1) (let proved = outcome-said
    (refuse_tables c.args.d (tables (goal.at.returns-in_err-accept c).Start) c.args.run c.in_err-accept.field-0.0
    (sym c.in_err-accept.was ∙ c.accept.ensures.value)) in
    record { value = proved.0; result_value = proved.1 })

pub returns : goal.returns
returns c =
    let proved = outcome-said
    (c.check_state.ensures.value ∙ state_decides c.args.d (tables (goal.at.returns c).Start) c.args.run (sym c.in_ok-accept.was ∙ c.accept.ensures.value)) in
    record { value = proved.0; result_value = proved.1 }
