-- The lines by their numbers: how many there are, and the line of each gate. By induction on the gates.
use mathlib.Core.Path.{◌≡◌, refl, sym, ap, ◌∙◌}
use mathlib.Core.Bool.{true}
use mathlib.Core.List.{List, [], ◌∷◌}
use Prim.Native.Nat.{ℕ, zero, suc, ◌+◌, ◌-◌, ◌*◌, ◌/◌, ◌≤◌}
use native.Mathlib.Nat.{add-zero, mul-le-mul, mul-le-mul_left}
use native.Mathlib.Omega.{arith}
use lib.ListN.{length, get_or}
use Rattle.dimensions.specs.declared.Dimensions.{Dimensions}
use Rattle.dimensions.specs.Sizes.{row_count, input_wires}
use Rattle.dimensions.proofs.Limits.{Within}
use Rattle.gates.specs.Gates.{Gate}
use Rattle.gates.specs.Memory.{gate_of, gates_of, accepted}
use Rattle.gates.proofs.InMemory.{accepted-length}
use Rattle.bristol_line.specs.Lines.{line, size_line, input_line, output_line, gate_line}
use Rattle.bristol_line.proofs.Lengths.{size-length, input_length, output_length, gate_length}
use Rattle.bristol.specs.Text.{gate_lines, circuit_lines}
use Rattle.bristol.specs.Writing.{line_at}

gate_lines_lem : (wire : ℕ) (gs : List Gate) → length (gate_lines wire gs) ≡ length gs
unfolding gate_lines
gate_lines_lem wire [] = refl
gate_lines_lem wire (g ∷ gs) = ap suc (gate_lines_lem (suc wire) gs)

-- four lines and one for each gate
lines_number : (d : Dimensions) (gs : List Gate) → length (circuit_lines d gs) ≡ 4 + length gs
unfolding circuit_lines
lines_number d gs = omega (arith, gate_lines_lem (input_wires d) gs)

pub lines_of_words : (d : Dimensions) (ws : List ℕ) → accepted (input_wires d) ws ≡ true → length (circuit_lines d (gates_of ws)) ≡ 4 + length ws / 3
lines_of_words d ws e = omega (arith, lines_number d (gates_of ws), accepted-length (input_wires d) ws e)

-- the line of gate i is that of the three words at 3 i
pub gate_line-at : (wire : ℕ) (ws : List ℕ) (i : ℕ) → 3 * i + 3 ≤ length ws
    → get_or (gate_lines wire (gates_of ws)) i [] ≡ gate_line (wire + i) (gate_of (get_or ws (3 * i) 0) (get_or ws (3 * i + 1) 0) (get_or ws (3 * i + 2) 0))
unfolding gate_lines gates_of
gate_line-at wire [] i h = absurd (omega arith)
gate_line-at wire (k ∷ []) i h = absurd (omega arith)
gate_line-at wire (k ∷ a ∷ []) i h = absurd (omega arith)
gate_line-at wire (k ∷ a ∷ b ∷ ws) zero h = ap (λ (w : ℕ). gate_line w (gate_of k a b)) (sym (add-zero wire))
gate_line-at wire (k ∷ a ∷ b ∷ ws) (suc i) h =
    let first : 3 * suc i ≡ suc (suc (suc (3 * i))) = omega arith in
    let second : suc (suc (suc (3 * i))) + 1 ≡ suc (suc (suc (3 * i + 1))) = omega arith in
    let third : suc (suc (suc (3 * i))) + 2 ≡ suc (suc (suc (3 * i + 2))) = omega arith in
    let next : wire + suc i ≡ suc wire + i = omega arith in
    rw (first, second, third, next) (gate_line-at (suc wire) ws i (omega arith))

-- the inputs of dimensions within the limits are few
pub inputs-small : (d : Dimensions) → Within d → input_wires d ≤ 27747
inputs-small d w =
    let rows : 2 * d.n * row_count d ≤ 64 * 384 = mul-le-mul (mul-le-mul_left 2 w.n-most) w.rows-most in
    let square : 3 * d.n * d.n ≤ 96 * 32 = mul-le-mul (mul-le-mul_left 3 w.n-most) w.n-most in
    omega (arith, w.n-most)

-- ---- no line is long

gate_lines_length : (wire : ℕ) (gs : List Gate) (i : ℕ) → length (get_or (gate_lines wire gs) i []) ≤ 127
unfolding gate_lines
gate_lines_length wire [] i = omega arith
gate_lines_length wire (g ∷ gs) zero = gate_length wire g
gate_lines_length wire (g ∷ gs) (suc i) = gate_lines_length (suc wire) gs i

pub lines_length : (d : Dimensions) (gs : List Gate) (i : ℕ) → length (get_or (circuit_lines d gs) i []) ≤ 127
unfolding circuit_lines
lines_length d gs zero = size-length (length gs) (input_wires d + length gs)
lines_length d gs (suc zero) = input_length d
lines_length d gs (suc (suc zero)) = output_length d
lines_length d gs (suc (suc (suc zero))) = omega arith
lines_length d gs (suc (suc (suc (suc i)))) = gate_lines_length (input_wires d) gs i

-- ---- the lines of a number

pub lines_first : (d : Dimensions) (ws : List ℕ) (i : ℕ) → accepted (input_wires d) ws ≡ true → i ≡ 0 → line_at d ws i
    ≡ size_line (length ws / 3) (input_wires d + length ws / 3)
unfolding circuit_lines
lines_first d ws i a e =
    let count : length (gates_of ws) ≡ length ws / 3 = omega (arith, accepted-length (input_wires d) ws a) in
    ap (line_at d ws) e ∙ ap (λ (k : ℕ). size_line k (input_wires d + k)) count

pub lines_second : (d : Dimensions) (ws : List ℕ) (i : ℕ) → i ≡ 1 → line_at d ws i ≡ input_line d
unfolding circuit_lines
lines_second d ws i e = ap (line_at d ws) e

pub lines_third : (d : Dimensions) (ws : List ℕ) (i : ℕ) → i ≡ 2 → line_at d ws i ≡ output_line d
unfolding circuit_lines
lines_third d ws i e = ap (line_at d ws) e

pub lines_blank : (d : Dimensions) (ws : List ℕ) (i : ℕ) → i ≡ 3 → line_at d ws i ≡ line []
unfolding circuit_lines
lines_blank d ws i e = ap (line_at d ws) e

pub lines_gate : (d : Dimensions) (ws : List ℕ) (i : ℕ) → 4 ≤ i → line_at d ws i ≡ get_or (gate_lines (input_wires d) (gates_of ws)) (i - 4) []
unfolding circuit_lines
lines_gate d ws i h =
    let behind : i ≡ suc (suc (suc (suc (i - 4)))) = omega arith in
    ap (line_at d ws) behind
