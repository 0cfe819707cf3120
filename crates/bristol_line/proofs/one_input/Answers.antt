-- `one_input` meets its contract: its pieces are the line.
use mathlib.Core.List.{◌++◌, append_assoc}
use Rattle.lexer.specs.Spelling.{bytes}
use Rattle.gates.specs.Gates.Gate.{INV}
use Rattle.bristol_line.specs.Lines.{gate_line}
use Rattle.bristol_line.specs.ByValue.{spaced}
use Rattle.bristol_line.proofs.Pieces.{zeros, four_pieces, made}
use Rattle.bristol_line.proofs.one_input.Goals as goal

pub returns : goal.returns
returns c =
    let s = c.args in
    let first = c.put-first in
    let output = c.put_field-output in
    let name = c.put_field-name in
    let last = c.put-length in
    made (((bytes "1 1 " ++ spaced s.a) ++ spaced s.wire) ++ bytes "INV\n") (gate_line s.wire (INV s.a)) _ _
    (four_pieces zeros (bytes "1 1 ") (spaced s.a) (spaced s.wire) (bytes "INV\n") _ _ _ _ _ _ _ _
    (first.ensures.value, first.ensures.bytes_after)
    (output.ensures.value, output.ensures.bytes_after)
    (name.ensures.value, name.ensures.bytes_after)
    (last.ensures.value, last.ensures.bytes_after)) (simp append_assoc)
