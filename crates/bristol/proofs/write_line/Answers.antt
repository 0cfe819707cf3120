-- `write_line` meets its contract: each return cites the law of what its checks found.
use mathlib.Core.Path.{◌≡◌, sym, ◌∙◌}
use native.Mathlib.Omega.{arith}
use Rattle.refusals.proofs.Outcomes.{passed_on}
use Rattle.std.specs.Prelude.{Ok}
use Rattle.refusals.specs.Checks.{outcome}
use Rattle.bristol.specs.Writing.{circuit_checks}
use Rattle.bristol.proofs.Requests.{with_some, taken_lines, with-line, refuse_circuit, past_last, line_asked}
use Rattle.bristol.proofs.write_line.Goals as goal
use Rattle.bristol.proofs.write_line.Goals.{In_ok-check_circuit}

-- the circuit was taken
taken : (c : In_ok-check_circuit) → let s = c.args in outcome (circuit_checks s.d s.gates.now) ≡ Ok tt
taken c = sym c.check_circuit.ensures ∙ c.in_ok-check_circuit.was

pub returns-in_err-check_circuit : goal.returns-in_err-check_circuit
returns-in_err-check_circuit c =
    rw (passed_on _ _ c.from_residual.ensures.1) (let s = c.args in
    let proved = with-line s.d s.gates.now s.line s.bytes.now _ _
    (refuse_circuit s.d s.gates.now s.line s.bytes.now _ (sym c.check_circuit.ensures ∙ c.in_err-check_circuit.was)) in
    record { value = proved.0; bytes_after = proved.1.0; result_value = proved.1.1 })

pub returns-then-gates-line : goal.returns-then-gates-line
returns-then-gates-line c =
    let s = c.args in
    let ok = taken (goal.at.returns-then-gates-line c).In_ok-check_circuit in
    let proved = with-line s.d s.gates.now s.line s.bytes.now _ _
    (past_last s.d s.gates.now s.line s.bytes.now ok (omega (arith, taken_lines s.d s.gates.now ok))) in
    record { value = proved.0; bytes_after = proved.1.0; result_value = proved.1.1 }

pub put_line-requires : goal.put_line-requires
put_line-requires c =
    record { gates_value = taken (goal.at.put_line-requires c).In_ok-check_circuit; line_bound = omega arith }

pub returns : goal.returns
returns c =
    let s = c.args in
    let asked = line_asked s.d s.gates.now s.line s.bytes.now (taken (goal.at.returns c).In_ok-check_circuit)
    (omega (arith, taken_lines s.d s.gates.now (taken (goal.at.returns c).In_ok-check_circuit))) _ _
    (c.put_line.ensures.value, c.put_line.ensures.bytes_after) in
    let mapped : c.map.result ≡ with_some c.put_line.result = grind arith in
    let proved = with-line s.d s.gates.now s.line s.bytes.now _ _ (mapped ∙ asked.0, asked.1) in
    record { value = proved.0; bytes_after = proved.1.0; result_value = proved.1.1 }
