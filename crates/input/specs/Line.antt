-- A line of an input: document 01, "Programs".
use Rattle.std.specs.Prelude.{ℕ, cond, List, [], ◌∷◌, eqb}

-- the bytes up to the first LF and with it, or all
unfoldable pub line_of : List ℕ → List ℕ
line_of [] = []
line_of (b ∷ rest) = b ∷ cond (eqb b 10) [] (line_of rest)
