-- `line_text` meets its contract: the number picks the line.
use mathlib.Core.Path.{◌≡◌, sym, ap, ◌∙◌}
use mathlib.Core.Bool.{true}
use mathlib.Core.List.{[]}
use Prim.Native.Nat.{ℕ, ◌+◌, ◌-◌, ◌/◌, ◌≤◌}
use native.Mathlib.Omega.{arith}
use lib.ListN.{length, get_or}
use Rattle.dimensions.specs.Sizes.{input_wires}
use Rattle.gates.specs.Memory as Memory
use Rattle.bristol_line.specs.Lines.{size_line}
use Rattle.bristol_line.specs.ByValue.{circuit_line_of}
use Rattle.bristol.specs.Text.{gate_lines}
use Rattle.bristol.proofs.Numbering.{inputs-small, lines_first, lines_second, lines_third, lines_blank, lines_gate}
use Rattle.bristol.proofs.Requests.{taken-within, taken-accepted}
use Rattle.bristol.proofs.line_text.Goals as goal
use Rattle.bristol.proofs.line_text.Goals.{In_default, Start}

-- the gates are accepted
accepted : (c : Start) → Memory.accepted (input_wires c.args.d) c.args.gates.now ≡ true
accepted c = taken-accepted c.args.d c.args.gates.now c.requires.gates_value

-- the inputs are few
few : (c : Start) → input_wires c.args.d ≤ 27747
few c = inputs-small c.args.d (taken-within c.args.d c.args.gates.now c.requires.gates_value)

-- a line after the blank one
behind : (c : In_default) → 4 ≤ c.args.line
behind c = omega arith

pub overflow_add-inputs : goal.overflow_add-inputs
overflow_add-inputs c = omega (arith, few (goal.at.overflow_add-inputs c).Start, c.input_wires-inputs.ensures)

pub gate_text-requires : goal.gate_text-requires
gate_text-requires c =
    record { inputs_bound = omega (arith, few (goal.at.gate_text-requires c).Start, c.input_wires-inputs.ensures); number_in_bounds = omega (arith, behind c) }

pub returns-in-0 : goal.returns-in-0
returns-in-0 c =
    let gates = length c.args.gates.now / 3 in
    c.sizes.ensures
    ∙ ap (λ (k : ℕ). circuit_line_of (size_line gates (k + gates))) c.input_wires-inputs.ensures
    ∙ ap circuit_line_of (sym (lines_first c.args.d c.args.gates.now c.args.line (accepted (goal.at.returns-in-0 c).Start) c.in-0.is))

pub returns-in-1 : goal.returns-in-1
returns-in-1 c =
    let start = c.args in
    c.inputs.ensures ∙ ap circuit_line_of (sym (lines_second start.d start.gates.now start.line c.in-1.is))

pub returns-in-2 : goal.returns-in-2
returns-in-2 c =
    let start = c.args in
    c.outputs.ensures ∙ ap circuit_line_of (sym (lines_third start.d start.gates.now start.line c.in-2.is))

pub returns-in-3 : goal.returns-in-3
returns-in-3 c =
    let start = c.args in
    c.blank.ensures ∙ ap circuit_line_of (sym (lines_blank start.d start.gates.now start.line c.in-3.is))

pub returns-in_default : goal.returns-in_default
returns-in_default c =
    let start = c.args in
    c.gate_text.ensures
    ∙ ap (λ (k : ℕ). circuit_line_of (get_or (gate_lines k (Memory.gates_of start.gates.now)) (start.line - 4) [])) c.input_wires-inputs.ensures
    ∙ ap circuit_line_of (sym (lines_gate start.d start.gates.now start.line (behind (goal.at.returns-in_default c).In_default)))
