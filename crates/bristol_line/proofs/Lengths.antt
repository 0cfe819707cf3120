-- No line is longer than 127 bytes: it has at most six fields, of at most 20 bytes each. So a line by value holds it whole.
use mathlib.Core.Path.{◌≡◌, ap, ap₂, ◌∙◌}
use mathlib.Core.Bool.{Bool, true, false, cond}
use mathlib.Core.List.{List, [], ◌∷◌}
use Prim.Native.Nat.{ℕ, ◌+◌, ◌*◌, ◌≤◌}
use native.Mathlib.Omega.{arith}
use lib.Dec.{eqb}
use lib.ListN.{length, take, drop, replicate, length-append}
use lib.Seq.{sets, sets-eq, length-sets, take-append_seam}
use Rattle.lexer.specs.Spelling.{bytes}
use Rattle.text.specs.Decimal.{decimal}
use Rattle.text.proofs.Decimals.{decimal-length}
use Rattle.dimensions.specs.declared.Dimensions.{Dimensions}
use Rattle.dimensions.specs.Sizes.{state_wire_count}
use Rattle.gates.specs.Gates.{Gate}
use Rattle.gates.specs.Gates.Gate.{XOR, AND, INV}
use Rattle.bristol_line.specs.declared.CircuitLine.{CircuitLine}
use Rattle.bristol_line.specs.Lines.{line, size_line, three_values, four_values, input_line, output_line, gate_line}
use Rattle.bristol_line.specs.ByValue.{circuit_line_of}

-- fields of at most 20 bytes
abbrev Short : List (List ℕ) → Type 0
Short [] = Unit
Short (f ∷ fs) = (length f ≤ 20) × Short fs

line-length : (fs : List (List ℕ)) → Short fs → length (line fs) ≤ 21 * length fs + 1
line-length [] h = omega arith
line-length (f ∷ []) h = omega (arith, length-append f (10 ∷ []), h.0)
line-length (f ∷ g ∷ fs) h = omega (arith, length-append f (32 ∷ line (g ∷ fs)), h.0, line-length (g ∷ fs) h.1)

-- the first header line has at most 127 bytes
pub size-length : (gates wires : ℕ) → length (size_line gates wires) ≤ 127
size-length gates wires = omega (arith, line-length (decimal gates ∷ decimal wires ∷ []) (decimal-length gates, (decimal-length wires, tt)))

-- the second header line has at most 127 bytes
pub input_length : (d : Dimensions) → length (input_line d) ≤ 127
input_length d = go (eqb d.public 0)
  where
    go : (b : Bool) → length (line (cond b (three_values d) (four_values d))) ≤ 127
    go true = omega (arith, line-length (three_values d) (omega arith, (decimal-length _, (decimal-length _, (decimal-length _, tt)))))
    go false = omega (arith, line-length (four_values d) (omega arith, (decimal-length _, (decimal-length _, (decimal-length _, (decimal-length _, tt))))))

-- the third header line has at most 127 bytes
pub output_length : (d : Dimensions) → length (output_line d) ≤ 127
output_length d =
    let s = state_wire_count d.n in
    omega (arith, line-length (bytes "2" ∷ decimal s ∷ bytes "1" ∷ []) (omega arith, (decimal-length s, (omega arith, tt))))

-- the line of a gate of two inputs, of whatever kind
two-length : (a b wire : ℕ) (kind : List ℕ) → length kind ≤ 20
    → length (line (bytes "2" ∷ bytes "1" ∷ decimal a ∷ decimal b ∷ decimal wire ∷ kind ∷ [])) ≤ 127
two-length a b wire kind h =
    omega (
      arith,
      line-length (bytes "2" ∷ bytes "1" ∷ decimal a ∷ decimal b ∷ decimal wire ∷ kind ∷ [])
          (omega arith, (omega arith, (decimal-length a, (decimal-length b, (decimal-length wire, (h, tt)))))),
    )

-- the line of a gate has at most 127 bytes
pub gate_length : (wire : ℕ) (g : Gate) → length (gate_line wire g) ≤ 127
gate_length wire (XOR a b) = two-length a b wire (bytes "XOR") (omega arith)
gate_length wire (AND a b) = two-length a b wire (bytes "AND") (omega arith)
gate_length wire (INV a) =
    omega (
      arith,
      line-length (bytes "1" ∷ bytes "1" ∷ decimal a ∷ decimal wire ∷ bytes "INV" ∷ []) (
        omega arith,
        (omega arith, (decimal-length a, (decimal-length wire, (omega arith, tt)))),
      ),
    )

-- ---- by value

-- a line by value and the bytes that it holds
pub record Holds (text : CircuitLine) (l : List ℕ) : Type 0 where
  pub size : text.length ≡ length l
  pub short : text.length ≤ length text.bytes
  pub front : take text.length text.bytes ≡ l

-- the line by value of at most 127 bytes holds them
pub holds : (text : CircuitLine) (l : List ℕ) → text ≡ circuit_line_of l → length l ≤ 127 → Holds text l
holds text l e h =
    let size : text.length ≡ length l = ap (λ (t : CircuitLine). t.length) e in
    let bytes : text.bytes ≡ sets (replicate 128 0) 0 l = ap (λ (t : CircuitLine). t.bytes) e in record {
      size = size;
      short = omega (arith, size, ap length bytes ∙ length-sets (replicate 128 0) 0 l);
      front = ap₂ take size (bytes ∙ sets-eq l (replicate 128 0) 0 (omega arith)) ∙ take-append_seam l (drop (0 + length l) (replicate 128 0));
    }
