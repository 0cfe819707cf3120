-- The circuit text, its lines in order: document 01, "Circuit".
use Rattle.std.specs.Prelude.{ℕ, suc, ◌+◌, length}
use mathlib.Core.List.{List, [], ◌∷◌, flatten}
use Rattle.dimensions.specs.declared.Dimensions.{Dimensions}
use Rattle.dimensions.specs.Sizes.{input_wires}
use Rattle.gates.specs.Gates.{Gate}
use Rattle.bristol_line.specs.Lines.{line, size_line, input_line, output_line, gate_line}

-- a line a gate, the first of which drives a wire and each later one the next
unfoldable pub gate_lines : ℕ → List Gate → List (List ℕ)
gate_lines wire [] = []
gate_lines wire (g ∷ gs) = gate_line wire g ∷ gate_lines (suc wire) gs

-- three header lines, the blank line, a line a gate
unfoldable pub circuit_lines : Dimensions → List Gate → List (List ℕ)
unfolding gate_lines
circuit_lines d gates =
    size_line (length gates) (input_wires d + length gates) ∷ input_line d ∷ output_line d ∷ line [] ∷ gate_lines (input_wires d) gates

-- the text is its lines, joined
unfoldable pub circuit_text : Dimensions → List Gate → List ℕ
unfolding circuit_lines flatten
circuit_text d gates = flatten (circuit_lines d gates)
