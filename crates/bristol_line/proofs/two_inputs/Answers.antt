-- `two_inputs` meets its contract: its pieces are the line.
use mathlib.Core.List.{◌∷◌, ◌++◌, append_assoc}
use Rattle.lexer.specs.Spelling.{bytes}
use Rattle.text.specs.Decimal.{decimal}
use Rattle.bristol_line.specs.ByValue.{spaced}
use Rattle.bristol_line.proofs.Pieces.{zeros, five_pieces, made}
use Rattle.bristol_line.proofs.two_inputs.Goals as goal

pub returns : goal.returns
returns c =
    let s = c.args in
    let first = c.put-first in
    let second = c.put_field-second in
    let output = c.put_field-output in
    let name = c.put_field-name in
    let last = c.put-length in
    made ((((bytes "2 1 " ++ spaced s.a) ++ spaced s.b) ++ spaced s.wire) ++ s.kind.now)
    (bytes "2 1 " ++ decimal s.a ++ (32 ∷ decimal s.b ++ (32 ∷ decimal s.wire ++ (32 ∷ s.kind.now)))) _ _
    (five_pieces zeros (bytes "2 1 ") (spaced s.a) (spaced s.b) (spaced s.wire) s.kind.now _ _ _ _ _ _ _ _ _ _
    (first.ensures.value, first.ensures.bytes_after)
    (second.ensures.value, second.ensures.bytes_after)
    (output.ensures.value, output.ensures.bytes_after)
    (name.ensures.value, name.ensures.bytes_after)
    (last.ensures.value, last.ensures.bytes_after)) (simp append_assoc)
