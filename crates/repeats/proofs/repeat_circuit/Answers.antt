-- `repeat_circuit` meets its contract. The loop's invariant: the repeats done and those that are left are the call's; run, number, bytes
-- and wires are as the repeats done left them. The measure is what is left of the times.
use mathlib.Core.Path.{◌≡◌, sym, ap, ◌∙◌}
use mathlib.Core.Bool.{true, false}
use mathlib.Core.List.{List}
use Prim.Native.Nat.{ℕ, ◌+◌}
use native.Mathlib.Omega.{arith}
use lib.Dec.{ltb}
use Rattle.dimensions.specs.Sizes.{state_wire_count}
use Rattle.tables.specs.Tables.{Tables, words_in}
use Rattle.state.specs.State.{if_open}
use Rattle.repeats.specs.Application.{wires_after, applied, mark_result}
use Rattle.repeats.specs.Repeating.{Repeated, ending_result}
use Rattle.repeats.proofs.Buffers.{Ready}
use Rattle.repeats.proofs.Repeating.{repeating_start, repeating_less, repeating_on, repeating_taken, repeating_end}
use Rattle.repeats.proofs.repeat_circuit.Goals as goal
use Rattle.repeats.proofs.repeat_circuit.Goals.{In-loop-d, Start}

abbrev tables : Start → Tables
tables s = words_in s.args.tables

ready : (s : Start) → Ready s.args.d (tables s) s.args.bytes.now s.args.wires.now
ready s = record { accepts = s.requires.public_value; room = s.requires.d_in_bounds.0; space = s.requires.d_in_bounds.1 }

-- the run goes on
on : (c : In-loop-d) → let l = c.loop-d in
    if_open l.run.standing (ltb l.repeats c.args.times) false ≡ true
on c = sym c.goes_on.ensures ∙ c.loop-d-test.true

pub loop-d-init : goal.loop-d-init
loop-d-init c =
    repeating_start c.args.d (tables (goal.at.loop-d-init c).Start) c.args.times c.args.bytes.now c.args.wires.now (ready (goal.at.loop-d-init c).Start)
    c.args.run.now c.requires.run_value

pub overflow_add-repeats : goal.overflow_add-repeats
overflow_add-repeats c =
    omega (
      arith,
      repeating_less c.args.d (tables (goal.at.overflow_add-repeats c).Start) c.args.times c.args.bytes.now c.args.wires.now
          (ready (goal.at.overflow_add-repeats c).Start)
          c.args.run.now _ _ _ _ c.loop-d.invariant (on (goal.at.overflow_add-repeats c).In-loop-d),
    )

pub loop-d-smaller : goal.loop-d-smaller
loop-d-smaller c =
    omega (
      arith,
      repeating_less c.args.d (tables (goal.at.loop-d-smaller c).Start) c.args.times c.args.bytes.now c.args.wires.now (ready (goal.at.loop-d-smaller c).Start)
          c.args.run.now _ _ _ _ c.loop-d.invariant (on (goal.at.loop-d-smaller c).In-loop-d),
    )

pub loop-d-preserved : goal.loop-d-preserved
loop-d-preserved c =
    let k = state_wire_count c.args.d.n + 1 in
    repeating_on c.args.d (tables (goal.at.loop-d-preserved c).Start) c.args.times c.args.bytes.now c.args.wires.now (ready (goal.at.loop-d-preserved c).Start)
    c.args.run.now _ _ _ _ c.loop-d.invariant (on (goal.at.loop-d-preserved c).In-loop-d) _ _ _
    (c.apply.ensures.run_after
    ∙ ap (λ (g : List ℕ). (applied c.args.d (tables (goal.at.loop-d-preserved c).Start) g c.loop-d.run c.loop-d.bytes c.loop-d.wires k).run)
    c.requires.gates_value)
    c.apply.ensures.bytes_after
    (c.apply.ensures.wires_after ∙ ap (λ (g : List ℕ). wires_after c.args.d (tables (goal.at.loop-d-preserved c).Start) g c.loop-d.run c.loop-d.bytes
    c.loop-d.wires) c.requires.gates_value)

-- no application is refused
pub returns-in_err-apply : goal.returns-in_err-apply
returns-in_err-apply c =
    let k = state_wire_count c.args.d.n + 1 in
    let l = c.loop-d in
    absurd (repeating_taken c.args.d (tables (goal.at.returns-in_err-apply c).Start) c.args.times c.args.bytes.now c.args.wires.now
    (ready (goal.at.returns-in_err-apply c).Start) c.args.run.now _ _ _ _ l.invariant _
    (ap (λ (g : List ℕ). mark_result (applied c.args.d (tables (goal.at.returns-in_err-apply c).Start) g l.run l.bytes l.wires k))
    (sym c.requires.gates_value)
    ∙ sym c.apply.ensures.value ∙ c.in_err-apply.was))

pub returns : goal.returns
returns c =
    let proved = repeating_end c.args.d (tables (goal.at.returns c).Start) c.args.times c.args.bytes.now c.args.wires.now (ready (goal.at.returns c).Start)
    c.args.run.now _ _ _ _ c.loop-d.invariant
    (sym c.goes_on.ensures ∙ c.loop-d-test.false) _ c.closed.ensures in
    record {
      value = ap ending_result proved.0;
      run_after = ap (λ (x : Repeated). x.run) proved.0;
      bytes_after = proved.1.0;
      wires_after = proved.1.1;
    }
