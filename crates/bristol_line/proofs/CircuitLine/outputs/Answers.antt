-- `outputs` meets its contract: its pieces are the line.
use mathlib.Core.Path.{◌≡◌, ap, ap₂, ◌∙◌}
use mathlib.Core.List.{List, [], ◌∷◌, ◌++◌, append_assoc}
use Prim.Native.Nat.{ℕ}
use native.Mathlib.Omega.{arith}
use Rattle.lexer.specs.Spelling.{bytes}
use Rattle.text.specs.Decimal.{decimal}
use Rattle.text.proofs.Decimals.{decimal_digit}
use Rattle.dimensions.specs.Sizes.{state_wire_count}
use Rattle.bristol_line.specs.Lines.{line, output_line}
use Rattle.bristol_line.specs.ByValue.{spaced}
use Rattle.bristol_line.proofs.Pieces.{zeros, ended, three_pieces, made}
use Rattle.bristol_line.proofs.CircuitLine.outputs.Goals as goal

pub returns : goal.returns
returns c =
    let d = c.args.d in
    let wires = c.state_wires.result in
    let first = c.put_field-state in
    let second = c.put_field-closing in
    let last = c.put_field-length in
    let fields : List ℕ → ℕ → List ℕ → List (List ℕ) = λ count k closing. count ∷ decimal k ∷ closing ∷ [] in
    let pieces : (spaced 2 ++ spaced wires) ++ ended 1 ≡ line (fields (decimal 2) wires (decimal 1)) = simp append_assoc in
    made ((spaced 2 ++ spaced wires) ++ ended 1) (output_line d) _ _
    (three_pieces zeros (spaced 2) (spaced wires) (ended 1) _ _ _ _ _ _
    (first.ensures.value, first.ensures.bytes_after)
    (second.ensures.value, second.ensures.bytes_after)
    (last.ensures.value, last.ensures.bytes_after))
    (pieces ∙ ap₂ (λ (count : List ℕ) (k : ℕ). line (fields count k (decimal 1))) (decimal_digit 2 (omega arith)) c.state_wires.ensures
    ∙ ap (λ (closing : List ℕ). line (fields (bytes "2") (state_wire_count d.n) closing)) (decimal_digit 1 (omega arith)))
