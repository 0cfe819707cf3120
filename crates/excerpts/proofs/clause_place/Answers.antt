-- `clause_place` meets its contract: a row that is not refused is its station's, and has its clause's place there.
use mathlib.Core.Path.{◌≡◌, sym, ◌∙◌}
use Rattle.refusals.proofs.Outcomes.{passed_on}
use Rattle.std.specs.Prelude.{Ok}
use Rattle.refusals.specs.Checks.{outcome}
use Rattle.tables.specs.Tables.{Tables, words_in}
use Rattle.excerpts.specs.Excerpts.{excerpt_checks}
use Rattle.excerpts.proofs.Places.{with-said, place-refused, left-place, right_place, some-row}
use Rattle.excerpts.proofs.clause_place.Goals as goal
use Rattle.excerpts.proofs.clause_place.Goals.{In_ok-checked, Start}

-- the tables
abbrev tables : Start → Tables
tables s = words_in s.args.tables

-- the row is not refused
taken : (c : In_ok-checked)
    → Ok tt ≡ outcome (excerpt_checks c.args.d (tables (goal.at.In_ok-checked c).Start) c.args.left_text.now c.args.right_text.now c.args.number)
taken c = sym c.in_ok-checked.was ∙ c.check_excerpt-checked.ensures.value

pub returns-in_err-checked : goal.returns-in_err-checked
returns-in_err-checked c =
    rw (passed_on _ _ c.from_residual.ensures.1) (let proved = with-said c.args.d (tables (goal.at.returns-in_err-checked c).Start) c.args.left_text.now
    c.args.right_text.now c.args.number _
    (place-refused c.args.d (tables (goal.at.returns-in_err-checked c).Start) c.args.left_text.now c.args.right_text.now c.args.number _
    (sym c.in_err-checked.was ∙ c.check_excerpt-checked.ensures.value)) in
    record { value = proved.0; result_value = proved.1 })

pub overflow_sub-i : goal.overflow_sub-i
overflow_sub-i c =
    some-row c.args.d (tables (goal.at.overflow_sub-i c).Start) c.args.left_text.now c.args.right_text.now c.args.number
    (taken (goal.at.overflow_sub-i c).In_ok-checked)

pub returns-then-number-left_rows : goal.returns-then-number-left_rows
returns-then-number-left_rows c =
    let proved = with-said c.args.d (tables (goal.at.returns-then-number-left_rows c).Start) c.args.left_text.now c.args.right_text.now c.args.number _
    (left-place c.args.d (tables (goal.at.returns-then-number-left_rows c).Start) c.args.left_text.now c.args.right_text.now c.args.number
    (taken (goal.at.returns-then-number-left_rows c).In_ok-checked)
    c.if-number-left_rows.true _ c.find_place.ensures) in
    record { value = proved.0; result_value = proved.1 }

pub returns : goal.returns
returns c =
    let proved = with-said c.args.d (tables (goal.at.returns c).Start) c.args.left_text.now c.args.right_text.now c.args.number _
    (right_place c.args.d (tables (goal.at.returns c).Start) c.args.left_text.now c.args.right_text.now c.args.number (taken (goal.at.returns c).In_ok-checked)
    c.if-number-left_rows.false _ c.find_place-2.ensures) in
    record { value = proved.0; result_value = proved.1 }
