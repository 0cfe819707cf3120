-- A line by value: bytes from the front of an array, and their number; and the pieces of which it is put together.
use Rattle.std.specs.Prelude.{ℕ, ◌*◌, List, [], ◌∷◌, ◌++◌, length, replicate}
use Rattle.std.proofs.lemmas.List.Edits.{sets}
use Rattle.text.specs.Decimal.{decimal}
use Rattle.dimensions.specs.declared.Dimensions.{Dimensions}
use Rattle.bristol_line.specs.declared.CircuitLine.{CircuitLine}

-- the line of these bytes, zeros after them
abbrev pub circuit_line_of : List ℕ → CircuitLine
circuit_line_of bytes = record { bytes = sets (replicate 128 0) 0 bytes; length = length bytes }

-- a number and a space
abbrev pub spaced : ℕ → List ℕ
spaced x = decimal x ++ (32 ∷ [])

-- how the second header line starts: the number of input values, and the widths of the stations' rows
abbrev pub stations : ℕ → Dimensions → List ℕ
stations count d = (spaced count ++ spaced (2 * d.n * d.left)) ++ spaced (2 * d.n * d.right)
