-- `three_values` meets its contract: its pieces are the line.
use mathlib.Core.Path.{◌≡◌, ap₂, ◌∙◌}
use mathlib.Core.List.{List, [], ◌∷◌, ◌++◌, append_assoc}
use Prim.Native.Nat.{ℕ, ◌*◌}
use native.Mathlib.Omega.{arith}
use Rattle.text.specs.Decimal.{decimal}
use Rattle.text.proofs.Decimals.{decimal_digit}
use Rattle.bristol_line.specs.Lines.{line, three_values}
use Rattle.bristol_line.specs.ByValue.{stations}
use Rattle.bristol_line.proofs.Pieces.{zeros, ended, one_piece, further, made}
use Rattle.bristol_line.proofs.three_values.Goals as goal

pub returns : goal.returns
returns c =
    let d = c.args.d in
    let wires = c.state_wires.result in
    let front = c.put_stations-state in
    let last = c.put_field-length in
    let fields : List ℕ → ℕ → List (List ℕ) = λ count k. count ∷ decimal (2 * d.n * d.left) ∷ decimal (2 * d.n * d.right) ∷ decimal k ∷ [] in
    let pieces : stations 3 d ++ ended wires ≡ line (fields (decimal 3) wires) = simp append_assoc in
    made (stations 3 d ++ ended wires) (line (three_values d)) _ _
    (further zeros _ _ (stations 3 d) (ended wires) 0 _ _
    (one_piece zeros (stations 3 d) _ _ (front.ensures.value, front.ensures.bytes_after))
    (last.ensures.value, last.ensures.bytes_after))
    (pieces ∙ ap₂ (λ (count : List ℕ) (k : ℕ). line (fields count k)) (decimal_digit 3 (omega arith)) c.state_wires.ensures)
