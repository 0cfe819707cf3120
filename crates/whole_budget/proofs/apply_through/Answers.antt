-- `apply_through` meets its contract. The loop's invariant: the state at hand, with the steps that are left, comes to the state after as many as the budget;
-- bytes and wires are as they were after what is used.
use mathlib.Core.Path.{sym, ap, ◌∙◌}
use mathlib.Core.List.{List}
use Prim.Native.Nat.{ℕ, ◌+◌}
use Rattle.std.specs.Prelude.{Ok}
use Rattle.dimensions.specs.Sizes.{state_wire_count}
use Rattle.tables.specs.Tables.{Tables, words_in}
use Rattle.repeats.specs.Application.{wires_after, applied, mark_result}
use Rattle.repeats.proofs.Buffers.{Ready}
use Rattle.whole_budget.proofs.Through.{through_start, through_on, through_taken, through_end}
use Rattle.whole_budget.proofs.apply_through.Goals as goal
use Rattle.whole_budget.proofs.apply_through.Goals.{Start}

abbrev tables : Start → Tables
tables s = words_in s.args.tables

ready : (s : Start) → Ready s.args.d (tables s) s.args.bytes.now s.args.wires.now
ready s = record { accepts = s.requires.public_value; room = s.requires.d_in_bounds.0; space = s.requires.d_in_bounds.1 }

pub loop-init : goal.loop-init
loop-init c =
    through_start c.args.d (tables (goal.at.loop-init c).Start) c.args.budget c.args.bytes.now c.args.wires.now (ready (goal.at.loop-init c).Start) _
    c.fresh-last.ensures

pub loop-preserved : goal.loop-preserved
loop-preserved c =
    let k = state_wire_count c.args.d.n + 1 in
    through_on c.args.d (tables (goal.at.loop-preserved c).Start) c.args.budget c.args.bytes.now c.args.wires.now
    (ready (goal.at.loop-preserved c).Start) _ _ _ _ c.loop.invariant
    c.loop-test.true _ _ _
    (c.apply.ensures.run_after
    ∙ ap (λ (g : List ℕ). (applied c.args.d (tables (goal.at.loop-preserved c).Start) g c.loop.last c.loop.bytes c.loop.wires k).run)
    c.requires.gates_value)
    c.apply.ensures.bytes_after
    (c.apply.ensures.wires_after ∙ ap (λ (g : List ℕ). wires_after c.args.d (tables (goal.at.loop-preserved c).Start) g c.loop.last
    c.loop.bytes c.loop.wires) c.requires.gates_value)

-- no application is refused
pub returns-in_err-apply : goal.returns-in_err-apply
returns-in_err-apply c =
    let k = state_wire_count c.args.d.n + 1 in
    let l = c.loop in
    absurd (through_taken c.args.d (tables (goal.at.returns-in_err-apply c).Start) c.args.budget c.args.bytes.now c.args.wires.now
    (ready (goal.at.returns-in_err-apply c).Start) _ _ _ _ l.invariant _
    (ap (λ (g : List ℕ). mark_result (applied c.args.d (tables (goal.at.returns-in_err-apply c).Start) g l.last l.bytes l.wires k))
    (sym c.requires.gates_value)
    ∙ sym c.apply.ensures.value ∙ c.in_err-apply.was))

pub returns : goal.returns
returns c =
    let proved = through_end c.args.d (tables (goal.at.returns c).Start) c.args.budget c.args.bytes.now c.args.wires.now (ready (goal.at.returns c).Start) _ _ _
    _ c.loop.invariant c.loop-test.false in
    record { value = ap Ok proved.0; bytes_unchanged = proved.1.0; wires_unchanged = proved.1.1 }
