-- `solve_whole` meets its contract: the checks decide; once they pass, the written words are the circuit, and all that was used is cleared.
use mathlib.Core.Path.{◌≡◌, refl, sym, ap, ap₂, ◌∙◌}
use Prim.Native.Nat.{ℕ, ◌+◌, ◌/◌, ◌≤◌}
use native.Mathlib.Omega.{arith}
use lib.ListN.{length}
use lib.Seq.{length-take-le}
use Rattle.refusals.proofs.Outcomes.{passed_on}
use Rattle.std.specs.Prelude.{Result, Ok, Err}
use Rattle.refusals.specs.declared.Refusal.{Refusal}
use Rattle.refusals.specs.Checks.{outcome}
use Rattle.dimensions.specs.Sizes.{input_wires}
use Rattle.tables.specs.Tables.{Tables, words_in}
use Rattle.state.specs.declared.Run.{Run}
use Rattle.verdicts.specs.declared.Verdict.{Verdict}
use Rattle.verdicts.specs.Verdicts.{verdict_of}
use Rattle.sections.specs.Addressing.{addresses_on}
use Rattle.netlist.specs.Netlist.{gates_on}
use Rattle.generator.specs.Generation.{generator_checks}
use Rattle.repeats.proofs.RepeatChecks.{all_wires, wires_small, generates, circuit_written}
use Rattle.repeats.proofs.Applying.{words_third}
use Rattle.whole_budget.specs.Applications.{whole_answer}
use Rattle.whole_budget.specs.WholeBudget.{whole_checks}
use Rattle.whole_budget.proofs.WholeChecks.{Passed, passed, whole-refused, whole-taken}
use Rattle.whole_budget.proofs.Clearing.{cleared-same}
use Rattle.whole_budget.proofs.solve_whole.Goals as goal
use Rattle.whole_budget.proofs.solve_whole.Goals.{After-input_wires-inputs, In_ok-check_whole, Start}

-- ---- what is known there

abbrev tables : Start → Tables
tables s = words_in s.args.tables

taken : (c : In_ok-check_whole)
    → outcome (whole_checks c.args.d (tables (goal.at.In_ok-check_whole c).Start) c.args.budget (length c.args.gates.now) (length c.args.bytes.now)
    (length c.args.wires.now)) ≡ Ok tt
taken c = sym c.check_whole.ensures ∙ c.in_ok-check_whole.was

known : (c : In_ok-check_whole)
    → Passed c.args.d (tables (goal.at.In_ok-check_whole c).Start) c.args.budget (length c.args.gates.now) (length c.args.bytes.now) (length c.args.wires.now)
known c =
    passed c.args.d (tables (goal.at.In_ok-check_whole c).Start) c.args.budget (length c.args.gates.now) (length c.args.bytes.now) (length c.args.wires.now)
    (taken c)

-- a run that is returned
same_run : {a b : Run} → ◌≡◌ {A = Result Run Refusal} (Ok a) (Ok b) → a ≡ b
same_run e = cc

not_refused : {a : Run} {r : Refusal} → ◌≡◌ {A = Result Run Refusal} (Ok a) (Err r) → ⊥
not_refused e = let z : ◌≡◌ {A = ℕ} 0 1 = cc in omega arith

-- the generator takes the words
generated : (c : In_ok-check_whole) → outcome (generator_checks c.args.d c.args.gates.now) ≡ Ok tt
generated c = generates c.args.d (tables (goal.at.In_ok-check_whole c).Start) c.args.gates.now (known c).tables-taken (known c).words-enough

-- how many wires there are
wires-counted : (c : After-input_wires-inputs) → let d = c.args.d in
    c.input_wires-inputs.result + c.write_circuit-words.result / 3 ≡ input_wires d + length (gates_on d)
wires-counted c =
    let count = c.write_circuit-words.ensures.value
    ∙ ap length (circuit_written c.args.d c.args.gates.now (generated (goal.at.After-input_wires-inputs c).In_ok-check_whole)) in
    ap₂ (λ (i k : ℕ). i + k) c.input_wires-inputs.ensures (ap (λ (k : ℕ). k / 3) count ∙ words_third c.args.d)

-- they are few
wires-fit : (c : After-input_wires-inputs) → c.input_wires-inputs.result + c.write_circuit-words.result / 3 ≤ 1048576
wires-fit c =
    let few = wires_small c.args.d (tables (goal.at.After-input_wires-inputs c).Start)
    (known (goal.at.After-input_wires-inputs c).In_ok-check_whole).tables-taken
    (addresses_on c.args.d) refl in
    omega (arith, few.1, all_wires c.args.d, wires-counted c)

pub returns-in_err-check_whole : goal.returns-in_err-check_whole
returns-in_err-check_whole c =
    rw (passed_on _ _ c.from_residual.ensures.1) (let proved = whole-refused c.args.d (tables (goal.at.returns-in_err-check_whole c).Start) c.args.budget
    c.args.gates.now c.args.bytes.now c.args.wires.now _
    (sym c.check_whole.ensures ∙ c.in_err-check_whole.was) in
    record { value = proved.0; gates_after = proved.1.0; bytes_after = proved.1.1.0; wires_after = proved.1.1.1.0; result_value = proved.1.1.1.1 })

-- no application is refused
pub returns-in_err-last : goal.returns-in_err-last
returns-in_err-last c = absurd (not_refused (sym c.apply_through.ensures.value ∙ c.in_err-last.was))

pub slice_bounds-circuit-end : goal.slice_bounds-circuit-end
slice_bounds-circuit-end c = c.write_circuit-words.ensures.upper_bound

pub slice_bounds-circuit-end-2 : goal.slice_bounds-circuit-end-2
slice_bounds-circuit-end-2 c = sym (length-take-le _ _ c.write_circuit-words.ensures.upper_bound)

pub apply_through-requires : goal.apply_through-requires
apply_through-requires c =
    let k = known (goal.at.apply_through-requires c).In_ok-check_whole in
    let circuit = c.write_circuit-words.ensures.gates_after
    ∙ circuit_written c.args.d c.args.gates.now (generated (goal.at.apply_through-requires c).In_ok-check_whole) in
    record { gates_value = circuit; public_value = k.tables-taken; d_in_bounds = (k.bytes-enough, k.wires_enough) }

pub clear-requires : goal.clear-requires
clear-requires c =
    let kept : length c.apply_through.new.bytes ≡ length c.args.bytes.now = c.apply_through.auto.bytes in
    omega (arith, c.input_wires-inputs.ensures, (known (goal.at.clear-requires c).In_ok-check_whole).bytes-enough)

pub overflow_add-inputs : goal.overflow_add-inputs
overflow_add-inputs c = omega (arith, wires-fit (goal.at.overflow_add-inputs c).After-input_wires-inputs)

pub clear-requires-2 : goal.clear-requires-2
clear-requires-2 c =
    let kept : length c.apply_through.new.wires ≡ length c.args.wires.now = c.apply_through.auto.wires in
    omega (arith, wires-counted (goal.at.clear-requires-2 c).After-input_wires-inputs, (known (goal.at.clear-requires-2 c).In_ok-check_whole).wires_enough)

pub returns : goal.returns
unfolding whole_answer
returns c =
    let d = c.args.d in
    let proved = whole-taken d (tables (goal.at.returns c).Start) c.args.budget c.args.gates.now c.args.bytes.now c.args.wires.now
    (taken (goal.at.returns c).In_ok-check_whole) _ _ _ _
    (ap (λ (v : Verdict). Ok (record { count = c.args.budget; verdict = v })) c.verdict_of.ensures.value
    ∙ ap (λ (r : Run). Ok (record { count = c.args.budget; verdict = verdict_of r.standing r.t }))
    (same_run (sym c.in_ok-last.was ∙ c.apply_through.ensures.value)))
    c.write_circuit-words.ensures.gates_after_2
    (cleared-same _ (input_wires d) _ _ _ c.clear.ensures c.input_wires-inputs.ensures c.apply_through.ensures.bytes_unchanged)
    (cleared-same _ (input_wires d + length (gates_on d)) _ _ _ c.clear-2.ensures (wires-counted (goal.at.returns c).After-input_wires-inputs)
    c.apply_through.ensures.wires_unchanged) in
    record { value = proved.0; gates_after = proved.1.0; bytes_after = proved.1.1.0; wires_after = proved.1.1.1.0; result_value = proved.1.1.1.1 }
