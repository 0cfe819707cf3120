-- Gates written as words: those that are read as these gates (`gates_words`, `words_gates`), so this need not be believed.
use Rattle.std.specs.Prelude.{List, [], ◌∷◌, ◌++◌, ℕ}
use Rattle.gates.specs.Gates.{Gate}
use Rattle.gates.specs.Gates.Gate.{XOR, AND, INV}

-- a gate's words
abbrev pub gate_words : Gate → List ℕ
gate_words (XOR a b) = 0 ∷ (a ∷ (b ∷ []))
gate_words (AND a b) = 1 ∷ (a ∷ (b ∷ []))
gate_words (INV a) = 2 ∷ (a ∷ (0 ∷ []))

-- the words of gates
unfoldable pub words_of : List Gate → List ℕ
words_of [] = []
words_of (g ∷ gs) = gate_words g ++ words_of gs
