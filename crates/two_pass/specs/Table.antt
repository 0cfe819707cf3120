-- The table of gates' values.
use Rattle.std.specs.Prelude.{List, [], ◌∷◌, ℕ}

-- the bytes that XOR, AND and INV give, on wires 00, 01, 10 and 11
abbrev pub table : List ℕ
table = 0 ∷ (1 ∷ (1 ∷ (0 ∷ (0 ∷ (0 ∷ (0 ∷ (1 ∷ (1 ∷ (1 ∷ (0 ∷ (0 ∷ [])))))))))))
