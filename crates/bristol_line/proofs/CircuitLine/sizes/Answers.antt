-- `sizes` meets its contract: its pieces are the line.
use mathlib.Core.List.{◌++◌, append_assoc}
use Rattle.bristol_line.specs.Lines.{size_line}
use Rattle.bristol_line.specs.ByValue.{spaced}
use Rattle.bristol_line.proofs.Pieces.{ended, further, made}
use Rattle.bristol_line.proofs.CircuitLine.sizes.Goals as goal

pub returns : goal.returns
returns c =
    let start = c.args in
    let first = c.put_field-second in
    let last = c.put_field-length in
    made (spaced start.gates ++ ended start.wires) (size_line start.gates start.wires) _ _
    (further _ _ _ (spaced start.gates) (ended start.wires) 0 _ _
    (first.ensures.value, first.ensures.bytes_after)
    (last.ensures.value, last.ensures.bytes_after)) (simp append_assoc)
