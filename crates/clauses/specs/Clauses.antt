-- Clauses: literals, each clause closed by 0, possibly over several lines (document 01, "DIMACS").
use Rattle.std.specs.Prelude.{ℕ, zero, suc, Bool, true, false, cond, List, [], ◌∷◌, ltb}
use Rattle.words.specs.declared.Row.{Row}
use Rattle.lexer.specs.Pieces.{Piece, behind}
use Rattle.numbers.specs.Numbers.{Number, number, malformed, number_read}
use Rattle.clauses.specs.Rows.{Literal, row_of}

-- What reading clause by clause finds: clauses, each with its literals, the place of its first token and the place after its 0; then the
-- end of the text, or a clause that cannot be read.
pub data Reading : Type 0 where
  clause : List Literal → ℕ → ℕ → Reading → Reading
  ended : Reading
  unreadable : Reading

-- a literal at a place joins the clause that follows; where none does, its 0 is missing
abbrev pub joined_literal : Literal → ℕ → Reading → Reading
joined_literal l at (clause ls from to rest) = clause (l ∷ ls) at to rest
joined_literal l at ended = unreadable
joined_literal l at unreadable = unreadable

-- a token, as a number, in front of what follows: 0 closes a clause, a variable from 1 to n is a literal
abbrev pub before : ℕ → Piece → Number → Reading → Reading
before n t malformed rest = unreadable
before n t (number s zero) rest = clause [] t.at (behind t) rest
before n t (number s (suc i)) rest = cond (ltb i n) (joined_literal (record { minus = s; bit = i }) t.at rest) unreadable

-- the clauses of some tokens
unfoldable pub clauses : ℕ → List Piece → Reading
clauses n [] = ended
clauses n (t ∷ ts) = before n t (number_read t.bytes) (clauses n ts)

-- the rows of the clauses that could be read
abbrev pub clause_rows : Reading → List Row
clause_rows (clause ls from to rest) = row_of ls ∷ clause_rows rest
clause_rows ended = []
clause_rows unreadable = []

-- all clauses could be read
abbrev pub complete : Reading → Bool
complete (clause ls from to rest) = complete rest
complete ended = true
complete unreadable = false
