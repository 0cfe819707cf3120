-- `check_indexed` meets its contract: the tables' checks come first.
use mathlib.Core.Path.{sym, ◌∙◌}
use mathlib.Core.List.{List}
use Rattle.refusals.specs.Checks.{Check}
use Rattle.refusals.proofs.Outcomes.{outcome-taken, outcome-refused, outcome-said, passed_on}
use Rattle.tables.specs.Tables.{Tables, words_in}
use Rattle.tables.specs.Rows.{rows_of}
use Rattle.tables.specs.Acceptance.{table_checks}
use Rattle.indexed.specs.Entries.{indexed_checks}
use Rattle.indexed.proofs.check_indexed.Goals as goal
use Rattle.indexed.proofs.check_indexed.Goals.{Start}

-- the checks of the tables at the start, and those that follow
abbrev tables : Start → Tables
tables s = words_in s.args.tables

abbrev firstly : Start → List Check
firstly s = table_checks s.args.d (tables s)

abbrev then : Start → List Check
then s = indexed_checks s.args.d.n (rows_of s.args.d (tables s)) s.args.index.now s.args.run s.args.number

pub returns-in_err-accept : goal.returns-in_err-accept
returns-in_err-accept c =
    rw (passed_on _ _ c.from_residual.ensures.1) (let proved = outcome-said
    (sym (outcome-refused (firstly (goal.at.returns-in_err-accept c).Start) (then (goal.at.returns-in_err-accept c).Start) c.in_err-accept.field-0.0
    (sym c.accept.ensures.value ∙ c.in_err-accept.was))) in
    record { value = proved.0; result_value = proved.1 })

pub check_accepted-requires : goal.check_accepted-requires
check_accepted-requires c = sym c.accept.ensures.value ∙ c.in_ok-accept.was

pub returns : goal.returns
returns c =
    let proved = outcome-said
    (c.check_accepted.ensures ∙ sym (outcome-taken (firstly (goal.at.returns c).Start) (then (goal.at.returns c).Start)
    (sym c.accept.ensures.value ∙ c.in_ok-accept.was))) in
    record { value = proved.0; result_value = proved.1 }
