-- Whole texts, computed, without public rows and with them, and the lines of one that fit.
use mathlib.Core.Path.{◌≡◌, refl}
use mathlib.Core.List.{[], ◌∷◌, flatten}
use Rattle.lexer.specs.Spelling.{bytes}
use Rattle.text.specs.Decimal.{decimal_within, decimal}
use Rattle.dimensions.specs.declared.Dimensions.{Dimensions}
use Rattle.dimensions.specs.Sizes.{dimensions}
use Rattle.gates.specs.Gates.Gate.{XOR, AND, INV}
use Rattle.bristol.specs.Writing.{fitting}
use Rattle.bristol.specs.Text.{gate_lines, circuit_lines, circuit_text}

abbrev one : Dimensions
one = dimensions 1 1 1 0

-- 13 inputs, so the first gate drives wire 13
pub two_gates : circuit_text one (XOR 0 1 ∷ INV 13 ∷ []) ≡ bytes "2 15\n3 2 2 9\n2 9 1\n\n2 1 0 1 13 XOR\n1 1 13 14 INV\n"
unfolding circuit_text circuit_lines gate_lines flatten decimal decimal_within
two_gates = refl

-- the same with a public row: 15 inputs
pub public_row : circuit_text (dimensions 1 1 1 1) (XOR 0 1 ∷ INV 15 ∷ []) ≡ bytes "2 17\n4 2 2 2 9\n2 9 1\n\n2 1 0 1 15 XOR\n1 1 15 16 INV\n"
unfolding circuit_text circuit_lines gate_lines flatten decimal decimal_within
public_row = refl

-- the stations' largest tables without public rows: 64 wires a row, 3171 for the state
pub stations_largest : circuit_text (dimensions 32 128 128 0) (AND 19554 7 ∷ []) ≡ bytes "1 19556\n3 8192 8192 3171\n2 3171 1\n\n2 1 19554 7 19555 AND\n"
unfolding circuit_text circuit_lines gate_lines flatten decimal decimal_within
stations_largest = refl

-- the largest dimensions
pub largest : circuit_text (dimensions 32 128 128 128) (AND 27746 7 ∷ [])
    ≡ bytes "1 27748\n4 8192 8192 8192 3171\n2 3171 1\n\n2 1 27746 7 27747 AND\n"
unfolding circuit_text circuit_lines gate_lines flatten decimal decimal_within
largest = refl

-- the lines that fit 13 bytes, and those that fit one byte less
pub two_fit : fitting 13 (circuit_lines one (XOR 0 1 ∷ INV 13 ∷ [])) ≡ bytes "2 15\n" ∷ bytes "3 2 2 9\n" ∷ []
unfolding fitting circuit_lines gate_lines decimal decimal_within
two_fit = refl

pub one_fits : fitting 12 (circuit_lines one (XOR 0 1 ∷ INV 13 ∷ [])) ≡ bytes "2 15\n" ∷ []
unfolding fitting circuit_lines gate_lines decimal decimal_within
one_fits = refl
