-- `check_condition` meets its contract: each test of the code is a condition of the definition, in its order.
use mathlib.Core.Path.{◌≡◌, sym, ◌∙◌}
use Rattle.refusals.proofs.Outcomes.{passed_on}
use Rattle.std.specs.Prelude.{Ok}
use Rattle.refusals.specs.Checks.{outcome}
use Rattle.tables.specs.Tables.{Tables, words_in}
use Rattle.tables.specs.Acceptance.{table_checks}
use Rattle.state.specs.WellFormed.{state_checks}
use Rattle.late.proofs.Checks.{refuse_tables, refuse_state, refuse_padding, refuse_closed, refuse_row, take_condition}
use Rattle.late.proofs.check_condition.Goals as goal
use Rattle.late.proofs.check_condition.Goals.{In_ok-accept, In_ok-check_state, Start}

-- the tables at the start
abbrev tables : Start → Tables
tables s = words_in s.args.tables

-- ---- what is known there

tables-taken : (c : In_ok-accept) → outcome (table_checks c.args.d (tables (goal.at.In_ok-accept c).Start)) ≡ Ok tt
tables-taken c = sym c.accept.ensures.value ∙ c.in_ok-accept.was

state-taken : (c : In_ok-check_state) → outcome (state_checks c.args.d c.args.run) ≡ Ok tt
state-taken c = sym c.check_state.ensures.value ∙ c.in_ok-check_state.was

pub returns-in_err-accept : goal.returns-in_err-accept
returns-in_err-accept c =
    rw (passed_on _ _ c.from_residual.ensures.1) (refuse_tables c.args.d (tables (goal.at.returns-in_err-accept c).Start) c.args.run c.args.condition _
    (sym c.accept.ensures.value ∙ c.in_err-accept.was))

pub returns-in_err-check_state : goal.returns-in_err-check_state
returns-in_err-check_state c =
    rw (passed_on _ _ c.from_residual-in_err-check_state.ensures.1)
    (refuse_state c.args.d (tables (goal.at.returns-in_err-check_state c).Start) c.args.run c.args.condition
    (tables-taken (goal.at.returns-in_err-check_state c).In_ok-accept) _
    (sym c.check_state.ensures.value ∙ c.in_err-check_state.was))

pub returns-then-not-replaceable : goal.returns-then-not-replaceable
returns-then-not-replaceable c =
    refuse_padding c.args.d (tables (goal.at.returns-then-not-replaceable c).Start) c.args.run c.args.condition
    (tables-taken (goal.at.returns-then-not-replaceable c).In_ok-accept) (state-taken (goal.at.returns-then-not-replaceable c).In_ok-check_state) _
    c.replaceable.ensures
    c.if-not-replaceable.true

pub returns-then-closed : goal.returns-then-closed
returns-then-closed c =
    refuse_closed c.args.d (tables (goal.at.returns-then-closed c).Start) c.args.run c.args.condition
    (tables-taken (goal.at.returns-then-closed c).In_ok-accept)
    (state-taken (goal.at.returns-then-closed c).In_ok-check_state) _ c.replaceable.ensures
    c.if-not-replaceable.false (sym c.closed.ensures ∙ c.if-closed.true)

pub returns-then-not-low : goal.returns-then-not-low
returns-then-not-low c =
    refuse_row c.args.d (tables (goal.at.returns-then-not-low c).Start) c.args.run c.args.condition (tables-taken (goal.at.returns-then-not-low c).In_ok-accept)
    (state-taken (goal.at.returns-then-not-low c).In_ok-check_state) _ c.replaceable.ensures
    c.if-not-replaceable.false (sym c.closed.ensures ∙ c.if-closed.false)
    (sym c.low.ensures ∙ c.if-not-low.true)

pub returns : goal.returns
returns c =
    take_condition c.args.d (tables (goal.at.returns c).Start) c.args.run c.args.condition (tables-taken (goal.at.returns c).In_ok-accept)
    (state-taken (goal.at.returns c).In_ok-check_state) _ c.replaceable.ensures
    c.if-not-replaceable.false (sym c.closed.ensures ∙ c.if-closed.false)
    (sym c.low.ensures ∙ c.if-not-low.false)
