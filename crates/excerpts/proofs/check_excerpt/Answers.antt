-- `check_excerpt` meets its contract: an overlong text is refused first, then the tables, then the texts, then their tables.
use mathlib.Core.Path.{◌≡◌, refl, sym, ◌∙◌}
use Rattle.refusals.specs.Numbers.{Outcome}
use Rattle.refusals.specs.Checks.{outcome}
use Rattle.refusals.proofs.Outcomes.{outcome-said, passed_on}
use Rattle.tables.specs.Tables.{Tables, words_in}
use Rattle.dimacs.specs.Text.{TextTable, table_of}
use Rattle.dimacs.proofs.ThreeTexts.{table-is, taken, refusal-is}
use Rattle.excerpts.specs.Excerpts.{text_checks, excerpt_checks}
use Rattle.excerpts.proofs.Checks.{overlong-refused, tables-refused, tables-taken, left-refused, right_refused}
use Rattle.excerpts.proofs.check_excerpt.Goals as goal
use Rattle.excerpts.proofs.check_excerpt.Goals.{Start, In_ok-accept}

-- the tables and the texts
abbrev tables : Start → Tables
tables s = words_in s.args.tables

abbrev left : Start → TextTable
left s = table_of 1 s.args.left_text.now

abbrev right : Start → TextTable
right s = table_of 1 s.args.right_text.now

-- past the tables the texts decide
by_texts : (c : In_ok-accept) → let s = (goal.at.In_ok-accept c).Start in (o : Outcome)
    → o ≡ outcome (text_checks s.args.d (left s) (right s) s.args.number)
    → o ≡ outcome (excerpt_checks s.args.d (tables s) s.args.left_text.now s.args.right_text.now s.args.number)
by_texts c =
    let s = (goal.at.In_ok-accept c).Start in
    tables-taken s.args.d (tables s) s.args.left_text.now s.args.right_text.now s.args.number c.if-left_text-right_text.false
    (sym c.accept.ensures.value ∙ c.in_ok-accept.was) (left s) (right s) refl refl

pub returns-then-left_text-right_text : goal.returns-then-left_text-right_text
returns-then-left_text-right_text c =
    let proved = outcome-said (overlong-refused c.args.d (tables (goal.at.returns-then-left_text-right_text c).Start) c.args.left_text.now c.args.right_text.now
    c.args.number c.if-left_text-right_text.true) in
    record { value = proved.0; result_value = proved.1 }

pub returns-in_err-accept : goal.returns-in_err-accept
returns-in_err-accept c =
    rw (passed_on _ _ c.from_residual.ensures.1) (let proved = outcome-said (tables-refused c.args.d (tables (goal.at.returns-in_err-accept c).Start)
    c.args.left_text.now c.args.right_text.now c.args.number c.if-left_text-right_text.false _ (sym c.accept.ensures.value ∙ c.in_err-accept.was)) in
    record { value = proved.0; result_value = proved.1 })

pub returns-in_err-left_table : goal.returns-in_err-left_table
returns-in_err-left_table c =
    let s = (goal.at.returns-in_err-left_table c).Start in
    rw (passed_on _ _ c.from_residual-in_err-left_table.ensures.1)
    (let proved = outcome-said (by_texts (goal.at.returns-in_err-left_table c).In_ok-accept _
    (left-refused s.args.d (left s) (right s) s.args.number _ (refusal-is (left s) _ c.read.ensures.value _ c.in_err-left_table.was))) in
    record { value = proved.0; result_value = proved.1 })

pub returns-in_err-right_table : goal.returns-in_err-right_table
returns-in_err-right_table c =
    let s = (goal.at.returns-in_err-right_table c).Start in
    rw (passed_on _ _ c.from_residual-in_err-right_table.ensures.1)
    (let proved = outcome-said (by_texts (goal.at.returns-in_err-right_table c).In_ok-accept _
    (right_refused s.args.d (left s) (right s) s.args.number (taken (left s) _ c.read.ensures.value _ c.in_ok-left_table.was) _
    (refusal-is (right s) _ c.read-2.ensures.value _ c.in_err-right_table.was))) in
    record { value = proved.0; result_value = proved.1 })

pub returns : goal.returns
returns c =
    let s = (goal.at.returns c).Start in
    let proved = outcome-said (tables-taken s.args.d (tables s) s.args.left_text.now s.args.right_text.now s.args.number
    c.if-left_text-right_text.false (sym c.accept.ensures.value ∙ c.in_ok-accept.was) _ _
    (table-is (left s) _ c.read.ensures.value _ c.in_ok-left_table.was) (table-is (right s) _ c.read-2.ensures.value _ c.in_ok-right_table.was) _
    c.check_texts.ensures) in
    record { value = proved.0; result_value = proved.1 }
