-- The planes of a table and the rows of planes: document 02, "Columns before rows". "A square is 64 words, squares follow in row order".
-- Ask: Are missing rows zero bits?
use Rattle.std.specs.Prelude.{ℕ, zero, suc, ◌+◌, ◌*◌, ◌/◌, ◌%◌, List, [], ◌∷◌, ◌++◌, take}
use Rattle.squares.specs.Squares.{tabulate, column, square_at, plane_at}

-- a square's 64 words
abbrev pub flat : List (List ℕ) → List ℕ
flat [] = []
flat (p ∷ ps) = p ++ flat ps

-- k squares from s on, one after the other
unfoldable pub squares_from : List ℕ → ℕ → ℕ → List ℕ
squares_from table s zero = []
squares_from table s (suc k) = flat (square_at table s) ++ squares_from table (suc s) k

-- how many squares a number of rows has
abbrev pub square_count : ℕ → ℕ
square_count rows = (rows + 31) / 32

-- the planes of a table of `rows` rows
unfoldable pub planes_of : ℕ → List ℕ → List ℕ
unfolding squares_from
planes_of rows table = squares_from (take (2 * rows) table) 0 (square_count rows)

-- ---- back

-- word q of a table, two words a row: that of row q / 2, which is in square q / 64
unfoldable pub row_word : List ℕ → ℕ → ℕ
unfolding column
row_word planes q = column (plane_at planes (q / 64) (q % 2)) (q % 64 / 2)

-- the words of `rows` rows
unfoldable pub table_from : ℕ → List ℕ → List ℕ
unfolding row_word
table_from rows planes = tabulate (row_word planes) 0 (2 * rows)
