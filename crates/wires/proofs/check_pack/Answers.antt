-- `check_pack` meets its contract: each test of the code is a condition of the definition, in its order.
use mathlib.Core.Path.{sym, subst, ◌∙◌}
use Prim.Native.Nat.{ℕ, ◌≤◌, ◌<◌}
use Rattle.refusals.proofs.Outcomes.{outcome-said, passed_on}
use Rattle.tables.specs.Tables.{Tables, words_in}
use Rattle.wires.proofs.Checks.{refuse_tables, refuse_room, state_decides}
use Rattle.wires.proofs.check_pack.Goals as goal
use Rattle.wires.proofs.check_pack.Goals.{Start}

-- the tables at the start
abbrev tables : Start → Tables
tables s = words_in s.args.tables

pub returns-in_err-accept : goal.returns-in_err-accept
returns-in_err-accept c =
    rw (passed_on _ _ c.from_residual.ensures.1) (let proved = outcome-said
    (refuse_tables c.args.d (tables (goal.at.returns-in_err-accept c).Start) c.args.run c.args.room _
    (sym c.accept.ensures.value ∙ c.in_err-accept.was)) in
    record { value = proved.0; result_value = proved.1 })

pub returns-then-room-input_wires : goal.returns-then-room-input_wires
returns-then-room-input_wires c =
    let proved = outcome-said (refuse_room c.args.d (tables (goal.at.returns-then-room-input_wires c).Start) c.args.run c.args.room
    (sym c.accept.ensures.value ∙ c.in_ok-accept.was)
    (subst (λ (k : ℕ). c.args.room < k) c.input_wires.ensures c.if-room-input_wires.true)) in
    record { value = proved.0; result_value = proved.1 }

pub returns : goal.returns
returns c =
    let proved = outcome-said (c.check_state.ensures.value
    ∙ state_decides c.args.d (tables (goal.at.returns c).Start) c.args.run c.args.room (sym c.accept.ensures.value ∙ c.in_ok-accept.was)
    (subst (λ (k : ℕ). k ≤ c.args.room) c.input_wires.ensures c.if-room-input_wires.false)) in
    record { value = proved.0; result_value = proved.1 }
