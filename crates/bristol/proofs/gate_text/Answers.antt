-- `gate_text` meets its contract: three words a gate, and a wire a gate after the inputs.
use mathlib.Core.Path.{sym, ap, ◌∙◌}
use native.Mathlib.Omega.{arith}
use Rattle.bristol_line.specs.ByValue.{circuit_line_of}
use Rattle.bristol.proofs.Numbering.{gate_line-at}
use Rattle.bristol.proofs.gate_text.Goals as goal

pub returns : goal.returns
returns c =
    let start = c.args in
    c.gate.ensures ∙ ap circuit_line_of (sym (gate_line-at start.inputs start.gates.now start.number (omega arith)))
