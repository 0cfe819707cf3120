-- Gates and wires in memory: a gate is three words, kind (0 XOR, 1 AND, 2 INV), first wire and second wire (0 for INV); a wire is a byte, 0
-- or 1.
use Rattle.std.specs.Prelude.{Bool, true, false, ◌&&◌, cond, List, [], ◌∷◌, ◌++◌, map, ℕ, zero, suc, eqb, ltb, length, drop}
use Rattle.words.specs.Booleans.{digit}
use Rattle.gates.specs.Gates.{Gate}
use Rattle.gates.specs.Gates.Gate.{XOR, AND, INV}
unfoldable pub use Rattle.gates.specs.Words.{gate_words, words_of}

-- the gate of three words
abbrev pub gate_of : ℕ → ℕ → ℕ → Gate
gate_of zero a b = XOR a b
gate_of (suc zero) a b = AND a b
gate_of (suc (suc k)) a b = INV a

-- the gates of words, three each
unfoldable pub gates_of : List ℕ → List Gate
gates_of [] = []
gates_of (k ∷ []) = []
gates_of (k ∷ (a ∷ [])) = []
gates_of (k ∷ (a ∷ (b ∷ ws))) = gate_of k a b ∷ gates_of ws

-- three words that may drive wire m: a known kind, earlier wires, and 0 as the second word of INV
abbrev pub drives : ℕ → ℕ → ℕ → ℕ → Bool
drives m k a b = ltb k 3 && (ltb a m && cond (eqb k 2) (eqb b 0) (ltb b m))

-- words that are gates after m wires: three for each gate, and each gate may drive its wire
unfoldable pub accepted : ℕ → List ℕ → Bool
accepted m [] = true
accepted m (k ∷ []) = false
accepted m (k ∷ (a ∷ [])) = false
accepted m (k ∷ (a ∷ (b ∷ ws))) = drives m k a b && accepted (suc m) ws

-- wires' values as bytes
abbrev pub bytes_of : List Bool → List ℕ
bytes_of w = map digit w

-- and back
abbrev pub bits_of : List ℕ → List Bool
bits_of bytes = map (λ x. eqb x 1) bytes

-- each byte is 0 or 1
unfoldable pub bits : List ℕ → Bool
bits [] = true
bits (x ∷ xs) = ltb x 2 && bits xs

-- a list whose front is written over
abbrev pub over : List ℕ → List ℕ → List ℕ
over front list = front ++ drop (length front) list
