-- `repeat` meets its contract: the checks decide; once they pass, the written words are the circuit, as `repeat_circuit` requires.
use mathlib.Core.Path.{◌≡◌, sym, ◌∙◌}
use lib.ListN.{length}
use lib.Seq.{length-take-le}
use Rattle.std.specs.Prelude.{Ok}
use Rattle.refusals.specs.Checks.{outcome}
use Rattle.refusals.proofs.Outcomes.{passed_on}
use Rattle.tables.specs.Tables.{Tables, words_in}
use Rattle.generator.specs.Generation.{generator_checks}
use Rattle.repeats.specs.Repeating.{repeat_checks}
use Rattle.repeats.proofs.RepeatChecks.{Passed, passed, generates, circuit_written, repeat-refused, repeat-taken}
use Rattle.repeats.proofs.repeat.Goals as goal
use Rattle.repeats.proofs.repeat.Goals.{In_ok-check_repeat, Start}

-- ---- what is known there

abbrev tables : Start → Tables
tables s = words_in s.args.tables

taken : (c : In_ok-check_repeat) → outcome (repeat_checks c.args.d (tables (goal.at.In_ok-check_repeat c).Start) (length c.args.gates.now)
    (length c.args.bytes.now) (length c.args.wires.now) c.args.run.now) ≡ Ok tt
taken c = sym c.check_repeat.ensures ∙ c.in_ok-check_repeat.was

known : (c : In_ok-check_repeat)
    → Passed c.args.d (tables (goal.at.In_ok-check_repeat c).Start) (length c.args.gates.now) (length c.args.bytes.now) (length c.args.wires.now) c.args.run.now
known c =
    passed c.args.d (tables (goal.at.In_ok-check_repeat c).Start) (length c.args.gates.now) (length c.args.bytes.now) (length c.args.wires.now)
    c.args.run.now (taken c)

-- the generator takes the words
generated : (c : In_ok-check_repeat) → outcome (generator_checks c.args.d c.args.gates.now) ≡ Ok tt
generated c = generates c.args.d (tables (goal.at.In_ok-check_repeat c).Start) c.args.gates.now (known c).tables-taken (known c).words-enough

pub returns-in_err-check_repeat : goal.returns-in_err-check_repeat
returns-in_err-check_repeat c =
    let proved = repeat-refused c.args.d (tables (goal.at.returns-in_err-check_repeat c).Start) c.args.times c.args.gates.now c.args.bytes.now
    c.args.wires.now c.args.run.now _ (sym c.check_repeat.ensures ∙ c.in_err-check_repeat.was) in
    rw (passed_on _ _ c.from_residual.ensures.1) (record {
      value = proved.0;
      run_after = proved.1.0;
      gates_after = proved.1.1.0;
      bytes_after = proved.1.1.1.0;
      wires_after = proved.1.1.1.1.0;
      result_value = proved.1.1.1.1.1;
    })

pub slice_bounds-circuit-end : goal.slice_bounds-circuit-end
slice_bounds-circuit-end c = c.write_circuit-words.ensures.upper_bound

pub slice_bounds-circuit-end-2 : goal.slice_bounds-circuit-end-2
slice_bounds-circuit-end-2 c = sym (length-take-le _ _ c.write_circuit-words.ensures.upper_bound)

pub repeat_circuit-requires : goal.repeat_circuit-requires
repeat_circuit-requires c =
    let k = known (goal.at.repeat_circuit-requires c).In_ok-check_repeat in
    let circuit = c.write_circuit-words.ensures.gates_after
    ∙ circuit_written c.args.d c.args.gates.now (generated (goal.at.repeat_circuit-requires c).In_ok-check_repeat) in
    record { gates_value = circuit; public_value = k.tables-taken; d_in_bounds = (k.bytes-enough, k.wires_enough); run_value = k.state-taken }

pub returns : goal.returns
returns c =
    let r = c.repeat_circuit.ensures in
    let proved = repeat-taken c.args.d (tables (goal.at.returns c).Start) c.args.times c.args.gates.now c.args.bytes.now c.args.wires.now
    c.args.run.now (taken (goal.at.returns c).In_ok-check_repeat) _ _ _ _ _
    r.value r.run_after c.write_circuit-words.ensures.gates_after_2 r.bytes_after r.wires_after in
    record {
      value = proved.0;
      run_after = proved.1.0;
      gates_after = proved.1.1.0;
      bytes_after = proved.1.1.1.0;
      wires_after = proved.1.1.1.1.0;
      result_value = proved.1.1.1.1.1;
    }
