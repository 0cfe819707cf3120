-- The lines of the circuit text, Bristol Fashion: document 01, "Circuit".
-- Ask: Is the text Bristol Fashion?
use Rattle.std.specs.Prelude.{ℕ, ◌*◌, cond, List, [], ◌∷◌, ◌++◌, eqb}
use Rattle.lexer.specs.Spelling.{bytes}
use Rattle.text.specs.Decimal.{decimal}
use Rattle.dimensions.specs.declared.Dimensions.{Dimensions}
use Rattle.dimensions.specs.Sizes.{state_wire_count}
use Rattle.gates.specs.Gates.{Gate}
use Rattle.gates.specs.Gates.Gate.{XOR, AND, INV}

-- fields with single spaces between them, then LF; with no field, the blank line
abbrev pub line : List (List ℕ) → List ℕ
line [] = 10 ∷ []
line (f ∷ []) = f ++ (10 ∷ [])
line (f ∷ g ∷ fs) = f ++ (32 ∷ line (g ∷ fs))

-- the first header line: the number of gates and of wires
abbrev pub size_line : ℕ → ℕ → List ℕ
size_line gates wires = line (decimal gates ∷ decimal wires ∷ [])

-- the second, without public rows: the number of input values, and the widths of left rows, right rows and state
abbrev pub three_values : Dimensions → List (List ℕ)
three_values d = bytes "3" ∷ decimal (2 * d.n * d.left) ∷ decimal (2 * d.n * d.right) ∷ decimal (state_wire_count d.n) ∷ []

-- with them, "an input value before the state"
abbrev pub four_values : Dimensions → List (List ℕ)
four_values d =
    bytes "4" ∷ decimal (2 * d.n * d.left) ∷ decimal (2 * d.n * d.right)
    ∷ decimal (2 * d.n * d.public) ∷ decimal (state_wire_count d.n) ∷ []

-- "with none, that value is absent and the header is as before": document 02, Public rest rules
abbrev pub input_fields : Dimensions → List (List ℕ)
input_fields d = cond (eqb d.public 0) (three_values d) (four_values d)

abbrev pub input_line : Dimensions → List ℕ
input_line d = line (input_fields d)

-- the third: the number of output values, and the widths of the next state and of the closing wire
abbrev pub output_line : Dimensions → List ℕ
output_line d = line (bytes "2" ∷ decimal (state_wire_count d.n) ∷ bytes "1" ∷ [])

-- a gate that drives a wire: how many wires go in and come out, which, and the kind
abbrev pub gate_fields : ℕ → Gate → List (List ℕ)
gate_fields wire (XOR a b) = bytes "2" ∷ bytes "1" ∷ decimal a ∷ decimal b ∷ decimal wire ∷ bytes "XOR" ∷ []
gate_fields wire (AND a b) = bytes "2" ∷ bytes "1" ∷ decimal a ∷ decimal b ∷ decimal wire ∷ bytes "AND" ∷ []
gate_fields wire (INV a) = bytes "1" ∷ bytes "1" ∷ decimal a ∷ decimal wire ∷ bytes "INV" ∷ []

-- the line of a gate that drives a wire
abbrev pub gate_line : ℕ → Gate → List ℕ
gate_line wire gate = line (gate_fields wire gate)
