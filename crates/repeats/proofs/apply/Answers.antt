-- `apply` meets its contract: a refusal is packing's or evaluation's and is passed on; else the last wires are the outputs, and the next run is read from them.
use mathlib.Core.Path.{◌≡◌, refl, sym, ap, ap₂, ◌∙◌}
use mathlib.Core.List.{List}
use Prim.Native.Nat.{ℕ, ◌+◌, ◌/◌, ◌≤◌}
use native.Mathlib.Omega.{arith}
use lib.ListN.{length, take}
use lib.Seq.{length-take-le}
use Rattle.std.specs.Prelude.{Ok}
use Rattle.refusals.specs.Checks.{outcome}
use Rattle.refusals.proofs.Outcomes.{passed_on}
use Rattle.dimensions.specs.Sizes.{state_wire_count, input_wires}
use Rattle.tables.specs.Tables.{Tables, words_in}
use Rattle.two_pass.specs.Evaluation.{evaluation_checks, filled_wires}
use Rattle.wires.specs.Packing.{pack_checks}
use Rattle.wires.proofs.Checks.{Passed, passed}
use Rattle.netlist.specs.Outputs.{outputs_in}
use Rattle.repeats.specs.Application.{inputs, next_run, wires_after}
use Rattle.repeats.proofs.Judging.{outputs_fit, outputs-part, outputs-length, filled_are, wires_room}
use Rattle.repeats.proofs.Judging.{refused, refuse_packing, unfilled, refuse_evaluation, evaluated_next, apply_said}
use Rattle.repeats.proofs.apply.Goals as goal
use Rattle.repeats.proofs.apply.Goals.{After-evaluate, After-input_wires-inputs, In_ok-pack, In_ok-evaluate, Start}

-- ---- what is known there

abbrev tables : Start → Tables
tables s = words_in s.args.tables

-- packing takes the run
packs : (c : In_ok-pack) → outcome (pack_checks c.args.d (tables (goal.at.In_ok-pack c).Start) c.args.run.now (length c.args.bytes.now)) ≡ Ok tt
packs c = sym c.pack.ensures.value ∙ c.in_ok-pack.was

known : (c : In_ok-pack) → Passed c.args.d (tables (goal.at.In_ok-pack c).Start) c.args.run.now (length c.args.bytes.now)
known c = passed c.args.d (tables (goal.at.In_ok-pack c).Start) c.args.run.now (length c.args.bytes.now) (packs c)

fit : (c : In_ok-pack) → let d = c.args.d in state_wire_count d.n + 4 ≤ input_wires d
fit c = outputs_fit c.args.d (tables (goal.at.In_ok-pack c).Start) (known c).allowed

-- the packed bytes have room for the inputs
abbrev packed : In_ok-pack → List ℕ
packed c = c.pack.new.bytes

front : (c : After-input_wires-inputs) → c.input_wires-inputs.result ≤ length (packed (goal.at.After-input_wires-inputs c).In_ok-pack)
front c =
    let l : length (packed (goal.at.After-input_wires-inputs c).In_ok-pack) ≡ length c.args.bytes.now = c.pack.auto.bytes in
    omega (arith, (known (goal.at.After-input_wires-inputs c).In_ok-pack).enough, c.input_wires-inputs.ensures)

-- the evaluator's inputs are the definition's
inputs_are : (c : After-input_wires-inputs)
    → take c.input_wires-inputs.result (packed (goal.at.After-input_wires-inputs c).In_ok-pack)
    ≡ inputs c.args.d (tables (goal.at.After-input_wires-inputs c).Start) c.args.run.now c.args.bytes.now
inputs_are c = ap₂ (λ (k : ℕ) (b : List ℕ). take k b) c.input_wires-inputs.ensures c.pack.ensures.bytes_after

-- what evaluation says, and what it leaves
judged : (c : After-evaluate) → c.evaluate.result
    ≡ outcome (evaluation_checks c.args.gates.now (inputs c.args.d (tables (goal.at.After-evaluate c).Start) c.args.run.now c.args.bytes.now) c.args.wires.now)
judged c =
    c.evaluate.ensures.value ∙ ap (λ (i : List ℕ). outcome (evaluation_checks c.args.gates.now i c.args.wires.now))
    (inputs_are (goal.at.After-evaluate c).After-input_wires-inputs)

filled : (c : After-evaluate)
    → c.evaluate.new.wires ≡ wires_after c.args.d (tables (goal.at.After-evaluate c).Start) c.args.gates.now c.args.run.now c.args.bytes.now c.args.wires.now
filled c =
    c.evaluate.ensures.wires_after ∙ ap (λ (i : List ℕ). filled_wires c.args.gates.now i c.args.wires.now)
    (inputs_are (goal.at.After-evaluate c).After-input_wires-inputs)
    ∙ sym (filled_are c.args.d (tables (goal.at.After-evaluate c).Start) c.args.gates.now c.args.run.now c.args.bytes.now c.args.wires.now
    (packs (goal.at.After-evaluate c).In_ok-pack))

-- there is room for all wires
room : (c : In_ok-evaluate) → input_wires c.args.d + length c.args.gates.now / 3 ≤ length c.args.wires.now
room c =
    wires_room c.args.d (tables (goal.at.In_ok-evaluate c).Start) c.args.gates.now c.args.run.now c.args.bytes.now c.args.wires.now
    (packs (goal.at.In_ok-evaluate c).In_ok-pack)
    (sym (judged (goal.at.In_ok-evaluate c).After-evaluate) ∙ c.in_ok-evaluate.was)

pub returns-in_err-pack : goal.returns-in_err-pack
returns-in_err-pack c =
    let e = sym c.pack.ensures.value ∙ c.in_err-pack.was in
    let proved = apply_said c.args.d (tables (goal.at.returns-in_err-pack c).Start) c.args.gates.now c.args.run.now c.args.bytes.now c.args.wires.now
    (sym (refused c.args.d (tables (goal.at.returns-in_err-pack c).Start) c.args.gates.now c.args.run.now c.args.bytes.now c.args.wires.now
    (state_wire_count c.args.d.n + 1) _
    (refuse_packing c.args.d (tables (goal.at.returns-in_err-pack c).Start) c.args.gates.now c.args.run.now c.args.bytes.now c.args.wires.now _ e)))
    c.pack.ensures.bytes_after
    (unfilled c.args.d (tables (goal.at.returns-in_err-pack c).Start) c.args.gates.now c.args.run.now c.args.bytes.now c.args.wires.now _ e) refl refl in
    rw (passed_on _ _ c.from_residual.ensures.1) (record {
      value = proved.0;
      run_after = proved.1.0;
      bytes_after = proved.1.1.0;
      wires_after = proved.1.1.1.0;
      result_value = proved.1.1.1.1;
    })

pub slice_bounds-evaluate-end : goal.slice_bounds-evaluate-end
slice_bounds-evaluate-end c = front c

pub slice_bounds-evaluate-end-2 : goal.slice_bounds-evaluate-end-2
slice_bounds-evaluate-end-2 c = sym (length-take-le _ _ (front c))

pub returns-in_err-evaluate : goal.returns-in_err-evaluate
returns-in_err-evaluate c =
    let proved = apply_said c.args.d (tables (goal.at.returns-in_err-evaluate c).Start) c.args.gates.now c.args.run.now c.args.bytes.now c.args.wires.now
    (sym (refused c.args.d (tables (goal.at.returns-in_err-evaluate c).Start) c.args.gates.now c.args.run.now c.args.bytes.now c.args.wires.now
    (state_wire_count c.args.d.n + 1) _
    (refuse_evaluation c.args.d (tables (goal.at.returns-in_err-evaluate c).Start) c.args.gates.now c.args.run.now c.args.bytes.now c.args.wires.now
    (packs (goal.at.returns-in_err-evaluate c).In_ok-pack) _
    (sym (judged (goal.at.returns-in_err-evaluate c).After-evaluate) ∙ c.in_err-evaluate.was))))
    c.pack.ensures.bytes_after (filled (goal.at.returns-in_err-evaluate c).After-evaluate) refl refl in
    rw (passed_on _ _ c.from_residual-in_err-evaluate.ensures.1) (record {
      value = proved.0;
      run_after = proved.1.0;
      bytes_after = proved.1.1.0;
      wires_after = proved.1.1.1.0;
      result_value = proved.1.1.1.1;
    })

pub overflow_add-end : goal.overflow_add-end
overflow_add-end c =
    omega (arith, room c, c.input_wires-inputs.ensures)

pub overflow_add-start : goal.overflow_add-start
overflow_add-start c =
    omega (arith, fit (goal.at.overflow_add-start c).In_ok-pack, (known (goal.at.overflow_add-start c).In_ok-pack).enough, c.state_wires.ensures)

pub overflow_sub-start : goal.overflow_sub-start
overflow_sub-start c =
    omega (arith, fit (goal.at.overflow_sub-start c).In_ok-pack, c.state_wires.ensures, c.input_wires-inputs.ensures)

pub slice_bounds-next_run-end : goal.slice_bounds-next_run-end
slice_bounds-next_run-end c =
    let l : length c.evaluate.new.wires ≡ length c.args.wires.now = c.evaluate.auto.wires in
    omega (arith, room (goal.at.slice_bounds-next_run-end c).In_ok-evaluate, c.input_wires-inputs.ensures)

pub next_run-requires : goal.next_run-requires
next_run-requires c =
    let d = c.args.d in
    let kept : length c.evaluate.new.wires ≡ length c.args.wires.now = c.evaluate.auto.wires in
    ap length (outputs-part d c.args.gates.now c.input_wires-inputs.result c.state_wires.result c.input_wires-inputs.ensures
    c.state_wires.ensures (fit (goal.at.next_run-requires c).In_ok-pack) _)
    ∙ outputs-length d c.args.gates.now _ (fit (goal.at.next_run-requires c).In_ok-pack)
    (omega (arith, room (goal.at.next_run-requires c).In_ok-evaluate, kept))

pub returns : goal.returns
returns c =
    let d = c.args.d in
    let g = c.args.gates.now in
    let proved = apply_said d (tables (goal.at.returns c).Start) g c.args.run.now c.args.bytes.now c.args.wires.now
    (ap (next_run d.n c.args.run.now (state_wire_count d.n + 1))
    (outputs-part d g c.input_wires-inputs.result c.state_wires.result c.input_wires-inputs.ensures c.state_wires.ensures (fit (goal.at.returns c).In_ok-pack) _
    ∙ ap (outputs_in d g) (filled (goal.at.returns c).After-evaluate))
    ∙ sym (evaluated_next d (tables (goal.at.returns c).Start) g c.args.run.now c.args.bytes.now c.args.wires.now (packs (goal.at.returns c).In_ok-pack)
    (sym (judged (goal.at.returns c).After-evaluate) ∙ c.in_ok-evaluate.was) (state_wire_count d.n + 1)))
    c.pack.ensures.bytes_after (filled (goal.at.returns c).After-evaluate) c.next_run.ensures.value c.next_run.ensures.run_after in
    record { value = proved.0; run_after = proved.1.0; bytes_after = proved.1.1.0; wires_after = proved.1.1.1.0; result_value = proved.1.1.1.1 }
