-- `check_counts` meets its contract: each test of the code is a condition of the definition, in its order.
use mathlib.Core.Path.{sym, subst, ◌∙◌}
use Prim.Native.Nat.{ℕ, ◌≤◌, ◌<◌}
use Rattle.refusals.proofs.Outcomes.{passed_on}
use Rattle.tables.specs.Tables.{Tables, words_in}
use Rattle.free_counts.proofs.Checks.{refuse_tables, refuse_room, state_decides}
use Rattle.free_counts.proofs.check_counts.Goals as goal
use Rattle.free_counts.proofs.check_counts.Goals.{Start}

-- the tables at the start
abbrev tables : Start → Tables
tables s = words_in s.args.tables

pub returns-in_err-accept : goal.returns-in_err-accept
returns-in_err-accept c =
    rw (passed_on _ _ c.from_residual.ensures.1) (refuse_tables c.args.d (tables (goal.at.returns-in_err-accept c).Start) c.args.run c.args.room _
    (sym c.accept.ensures.value ∙ c.in_err-accept.was))

pub returns-then-room-rows : goal.returns-then-room-rows
returns-then-room-rows c =
    refuse_room c.args.d (tables (goal.at.returns-then-room-rows c).Start) c.args.run c.args.room (sym c.accept.ensures.value ∙ c.in_ok-accept.was)
    (subst (λ (k : ℕ). c.args.room < k) c.rows.ensures c.if-room-rows.true)

pub returns : goal.returns
returns c =
    c.check_state.ensures.value
    ∙ state_decides c.args.d (tables (goal.at.returns c).Start) c.args.run c.args.room (sym c.accept.ensures.value ∙ c.in_ok-accept.was)
    (subst (λ (k : ℕ). k ≤ c.args.room) c.rows.ensures c.if-room-rows.false)
