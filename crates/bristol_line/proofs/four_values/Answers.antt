-- `four_values` meets its contract: its pieces are the line.
use mathlib.Core.Path.{◌≡◌, ap₂, ◌∙◌}
use mathlib.Core.List.{List, [], ◌∷◌, ◌++◌, append_assoc}
use Prim.Native.Nat.{ℕ, ◌*◌}
use native.Mathlib.Omega.{arith}
use Rattle.text.specs.Decimal.{decimal}
use Rattle.text.proofs.Decimals.{decimal_digit}
use Rattle.bristol_line.specs.Lines.{line, four_values}
use Rattle.bristol_line.specs.ByValue.{spaced, stations}
use Rattle.bristol_line.proofs.Pieces.{width_fits, zeros, ended, one_piece, three_pieces, made}
use Rattle.bristol_line.proofs.four_values.Goals as goal

pub overflow_mul-width-2 : goal.overflow_mul-width-2
overflow_mul-width-2 c = record { fits = width_fits _ _ (omega arith) (omega arith) }

pub returns : goal.returns
returns c =
    let d = c.args.d in
    let wires = c.state_wires.result in
    let public = c.put_stations-public in
    let state = c.put_field-state in
    let last = c.put_field-length in
    let rows : ℕ → ℕ = λ k. 2 * d.n * k in
    let fields : List ℕ → ℕ → List (List ℕ) =
    λ count k. count ∷ decimal (rows d.left) ∷ decimal (rows d.right) ∷ decimal (rows d.public) ∷ decimal k ∷ [] in
    let pieces : (stations 4 d ++ spaced (rows d.public)) ++ ended wires ≡ line (fields (decimal 4) wires) = simp append_assoc in
    made ((stations 4 d ++ spaced (rows d.public)) ++ ended wires) (line (four_values d)) _ _
    (three_pieces zeros (stations 4 d) (spaced (rows d.public)) (ended wires) _ _ _ _ _ _
    (one_piece zeros (stations 4 d) _ _ (public.ensures.value, public.ensures.bytes_after))
    (state.ensures.value, state.ensures.bytes_after)
    (last.ensures.value, last.ensures.bytes_after))
    (pieces ∙ ap₂ (λ (count : List ℕ) (k : ℕ). line (fields count k)) (decimal_digit 4 (omega arith)) c.state_wires.ensures)
