-- How long a text that is served can be: the circuit's wires have at most four digits, so that no line of a gate has more than 23 bytes. By induction on
-- the gates, from what a gate reads.
use mathlib.Core.Path.{◌≡◌}
use mathlib.Core.Bool.{true}
use mathlib.Core.List.{List, [], ◌∷◌, flatten}
use Prim.Native.Nat.{ℕ, suc, ◌+◌, ◌*◌, ◌≤◌, ◌<◌}
use native.Mathlib.Omega.{arith}
use borrow.Author.Tests.{ltb-true}
use lib.Dec.{ltb}
use lib.ListN.{length, length-append}
use Rattle.words.proofs.Truth.{and_l, and_r}
use Rattle.lexer.specs.Spelling.{bytes}
use Rattle.text.specs.Decimal.{decimal}
use Rattle.text.proofs.Decimals.{decimal-four}
use Rattle.dimensions.specs.declared.Dimensions.{Dimensions}
use Rattle.dimensions.specs.Sizes.{ceiling, input_wires}
use Rattle.gates.specs.Gates.{Gate}
use Rattle.gates.specs.Gates.Gate.{XOR, AND, INV}
use Rattle.gates.proofs.Circuits.{reads, ordered}
use Rattle.bristol_line.specs.Lines.{line, size_line, input_line, output_line, gate_line}
use Rattle.bristol_line.proofs.Lengths.{size-length, input_length, output_length}
use Rattle.bristol.specs.Text.{gate_lines, circuit_lines, circuit_text}

-- two of one byte, three numbers and a kind
two-inputs : (a b wire : ℕ) (kind : List ℕ) → a < 10000 → b < 10000 → wire < 10000 → length kind ≤ 3
    → length (line (bytes "2" ∷ bytes "1" ∷ decimal a ∷ decimal b ∷ decimal wire ∷ kind ∷ [])) ≤ 23
two-inputs a b wire kind ha hb hw hk =
    omega (
      arith,
      length-append (decimal a) (32 ∷ line (decimal b ∷ decimal wire ∷ kind ∷ [])),
      length-append (decimal b) (32 ∷ line (decimal wire ∷ kind ∷ [])),
      length-append (decimal wire) (32 ∷ line (kind ∷ [])),
      length-append kind (10 ∷ []),
      decimal-four a ha,
      decimal-four b hb,
      decimal-four wire hw,
    )

gate_short : (wire : ℕ) (g : Gate) → wire < 10000 → reads wire g ≡ true → length (gate_line wire g) ≤ 23
gate_short wire (XOR a b) h e =
    let x = ltb-true a wire (and_l (ltb a wire) (ltb b wire) e) in
    let y = ltb-true b wire (and_r (ltb a wire) (ltb b wire) e) in
    two-inputs a b wire (bytes "XOR") (omega arith) (omega arith) h (omega arith)
gate_short wire (AND a b) h e =
    let x = ltb-true a wire (and_l (ltb a wire) (ltb b wire) e) in
    let y = ltb-true b wire (and_r (ltb a wire) (ltb b wire) e) in
    two-inputs a b wire (bytes "AND") (omega arith) (omega arith) h (omega arith)
gate_short wire (INV a) h e =
    let x = ltb-true a wire e in
    omega (
      arith,
      length-append (decimal a) (32 ∷ line (decimal wire ∷ bytes "INV" ∷ [])),
      length-append (decimal wire) (32 ∷ line (bytes "INV" ∷ [])),
      decimal-four a (omega arith),
      decimal-four wire h,
    )

gates_short : (wire : ℕ) (gs : List Gate) → wire + length gs ≤ 10000 → ordered wire gs ≡ true → length (flatten (gate_lines wire gs)) ≤ 23 * length gs
unfolding gate_lines flatten ordered
gates_short wire [] h e = omega arith
gates_short wire (g ∷ gs) h e =
    omega (
      arith,
      length-append (gate_line wire g) (flatten (gate_lines (suc wire) gs)),
      gate_short wire g (omega arith) (and_l (reads wire g) (ordered (suc wire) gs) e),
      gates_short (suc wire) gs (omega arith) (and_r (reads wire g) (ordered (suc wire) gs) e),
    )

text_short : (d : Dimensions) (gs : List Gate) → input_wires d + length gs ≤ 10000 → ordered (input_wires d) gs
    ≡ true → length (circuit_text d gs) ≤ 382 + 23 * length gs
unfolding circuit_text circuit_lines flatten
text_short d gs h e =
    omega (
      arith,
      length-append (size_line (length gs) (input_wires d + length gs)) (flatten (input_line d ∷ output_line d ∷ line [] ∷ gate_lines (input_wires d) gs)),
      length-append (input_line d) (flatten (output_line d ∷ line [] ∷ gate_lines (input_wires d) gs)),
      length-append (output_line d) (flatten (line [] ∷ gate_lines (input_wires d) gs)),
      size-length (length gs) (input_wires d + length gs),
      input_length d,
      output_length d,
      gates_short (input_wires d) gs h e,
    )

-- the inputs are at most three times the product of which the ceiling has 64
few-inputs : (d : Dimensions) → ceiling d ≤ 5461 → input_wires d ≤ 255
few-inputs d h = omega arith

-- a circuit of no more gates than are served fits
pub served_short : (d : Dimensions) (gs : List Gate) → ceiling d ≤ 5461 → length gs ≤ 5461 → ordered (input_wires d) gs
    ≡ true → length (circuit_text d gs) ≤ 131072
served_short d gs h k e = omega (arith, text_short d gs (omega (arith, few-inputs d h)) e)
