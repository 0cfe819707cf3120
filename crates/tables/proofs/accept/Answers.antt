-- `accept` meets its contract: each test of the code is a condition of the definition, in its order.
use mathlib.Core.Path.{◌≡◌, sym, ap₂, ◌∙◌}
use mathlib.Core.Bool.{Bool, not, ◌||◌}
use Rattle.std.specs.Prelude.{Ok}
use Rattle.refusals.specs.Checks.{outcome}
use Rattle.refusals.proofs.Outcomes.{outcome-said, passed_on}
use Rattle.dimensions.specs.Sizes.{size_checks}
use Rattle.tables.specs.Tables.{Tables, words_in}
use Rattle.tables.specs.Acceptance.{any_high}
use Rattle.tables.proofs.Accepted.{refuse_size, refuse_buffer, refuse_bit, take-tables}
use Rattle.tables.proofs.accept.Goals as goal
use Rattle.tables.proofs.accept.Goals.{After-all_below-3, After-struct_known-3-1, Else-tables-left_words, Start}

-- the tables at the start
abbrev tables : Start → Tables
tables s = words_in s.args.tables

sized : (c : After-struct_known-3-1) → outcome (size_checks c.args.d) ≡ Ok tt
sized c = sym c.check.ensures.value ∙ c.in_ok-check.was

-- the code's test of the bits is the definition's
bits : (c : After-all_below-3)
    → any_high c.args.d (tables (goal.at.After-all_below-3 c).Start) ≡ not c.all_below.result || not c.all_below-2.result || not c.all_below-3.result
bits c =
    rw (sym c.rows-rows.ensures.left, sym c.rows-rows.ensures.right, sym c.rows-rows.ensures.public)
    (sym (ap₂ (λ (x y : Bool). x || not y) (ap₂ (λ (x y : Bool). not x || not y) c.all_below.ensures c.all_below-2.ensures)
    c.all_below-3.ensures))

pub returns-in_err-check : goal.returns-in_err-check
returns-in_err-check c =
    let proved = outcome-said (passed_on _ _ c.from_residual.ensures.1
    ∙ refuse_size c.args.d (tables (goal.at.returns-in_err-check c).Start) _ (sym c.check.ensures.value ∙ c.in_err-check.was)) in
    record { value = proved.0; result_value = proved.1 }

pub returns-then-tables-left_words : goal.returns-then-tables-left_words
returns-then-tables-left_words c =
    let proved = (outcome-said (refuse_buffer c.args.d (tables (goal.at.returns-then-tables-left_words c).Start)
    (sized (goal.at.returns-then-tables-left_words c).After-struct_known-3-1) c.if-tables-left_words.true)) in
    record { value = proved.0; result_value = proved.1 }

pub returns-then-all_below : goal.returns-then-all_below
returns-then-all_below c =
    let proved = outcome-said (refuse_bit c.args.d (tables (goal.at.returns-then-all_below c).Start)
    (sized (goal.at.returns-then-all_below c).After-struct_known-3-1) c.if-tables-left_words.false
    (bits (goal.at.returns-then-all_below c).After-all_below-3 ∙ c.if-all_below.true)) in
    record { value = proved.0; result_value = proved.1 }

pub returns : goal.returns
returns c =
    let proved = outcome-said (take-tables c.args.d (tables (goal.at.returns c).Start) (sized (goal.at.returns c).After-struct_known-3-1)
    c.if-tables-left_words.false (bits (goal.at.returns c).After-all_below-3 ∙ c.if-all_below.false)) in
    record { value = proved.0; result_value = proved.1 }
