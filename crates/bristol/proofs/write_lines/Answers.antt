-- `write_lines` meets its contract: what the checks refuse is returned, and a circuit that is taken is put.
use mathlib.Core.Path.{sym, ◌∙◌}
use Rattle.refusals.proofs.Outcomes.{passed_on}
use Rattle.bristol.proofs.Requests.{with_lines, refuse_lines}
use Rattle.bristol.proofs.write_lines.Goals as goal

pub returns-in_err-check_circuit : goal.returns-in_err-check_circuit
returns-in_err-check_circuit c =
    rw (passed_on _ _ c.from_residual.ensures.1) (let s = c.args in
    let proved = with_lines s.d s.gates.now s.line s.bytes.now _ _
    (refuse_lines s.d s.gates.now s.line s.bytes.now _ (sym c.check_circuit.ensures ∙ c.in_err-check_circuit.was)) in
    record { value = proved.0; bytes_after = proved.1.0; result_value = proved.1.1 })

pub put_lines-requires : goal.put_lines-requires
put_lines-requires c = sym c.check_circuit.ensures ∙ c.in_ok-check_circuit.was

pub returns : goal.returns
returns c =
    let s = c.args in
    let proved = with_lines s.d s.gates.now s.line s.bytes.now _ _ (c.put_lines.ensures.value, c.put_lines.ensures.bytes_after) in
    record { value = proved.0; bytes_after = proved.1.0; result_value = proved.1.1 }
