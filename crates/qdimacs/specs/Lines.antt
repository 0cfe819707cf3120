-- The lines of a QDIMACS text between its header and its clauses, each a letter and the variables of one side (document 02, "Who can force
-- the roster").
-- Ask: Are the lines document 02's, sentence by sentence?
use Rattle.std.specs.Prelude.{ℕ, zero, suc, Bool, true, false, ◌||◌, cond, List, [], ◌∷◌, ◌++◌, eqb, length, get_or, Option, Some, None}
use Rattle.lexer.specs.Bytes.{is_blank, is_tail, trimmed}
use Rattle.lexer.specs.Pieces.{Piece, parts_from, tokens_from}
use Rattle.numbers.specs.Numbers.{Number, number, malformed, number_read}

-- ---- one line

-- a number on such a line: whether the universal side's, whether it has a minus, and its value
pub record Bound : Type 0 where
  pub universal : Bool
  pub minus : Bool
  pub value : ℕ

-- a part, as a number, in front of other parts: 0 closes the line and is its last part
abbrev pub bound_then : Bool → Number → List Piece → Option (List Bound) → Option (List Bound)
bound_then u malformed ps rest = None
bound_then u (number s zero) [] rest = Some []
bound_then u (number s zero) (p ∷ ps) rest = None
bound_then u (number s (suc v)) ps None = None
bound_then u (number s (suc v)) ps (Some bs) = Some (record { universal = u; minus = s; value = suc v } ∷ bs)

-- the numbers of a line, closed by 0; none where a part is no number or the 0 is missing
unfoldable pub bound_on : Bool → List Piece → Option (List Bound)
bound_on u [] = None
bound_on u (p ∷ ps) = bound_then u (number_read p.bytes) ps (bound_on u ps)

-- "a line without a variable is malformed"
abbrev pub some_variable : Option (List Bound) → Option (List Bound)
some_variable None = None
some_variable (Some []) = None
some_variable (Some (b ∷ bs)) = Some (b ∷ bs)

-- the letter, a part by itself, and the numbers
abbrev pub lettered : Bool → List Piece → Option (List Bound)
lettered u [] = None
lettered u (p ∷ ps) = cond (eqb (length p.bytes) 1) (some_variable (bound_on u ps)) None

-- "`a` and `e` lines", "the letter its first byte"
abbrev pub is_variable_line : List ℕ → Bool
is_variable_line line = eqb (get_or line 0 0) 97 || eqb (get_or line 0 0) 101

-- such a line's variables, those of an `a` line the universal side's: "its parts set off and followed as the header's"
abbrev pub variable_line : List ℕ → Option (List Bound)
variable_line line = lettered (eqb (get_or line 0 0) 97) (parts_from is_blank (trimmed is_tail line) 0)

-- ---- all lines after the header's

-- no token is among some pieces
abbrev pub no_piece : List Piece → Bool
no_piece [] = true
no_piece (p ∷ ps) = false

-- a line of separators alone: "lines of separators alone may stand before any of them", and among clauses they say nothing
abbrev pub no_token : List ℕ → Bool
no_token line = no_piece (tokens_from line 0)

-- the lines that have a token
abbrev pub token_lines : List Piece → List (List ℕ)
token_lines [] = []
token_lines (l ∷ ls) = cond (no_token l.bytes) (token_lines ls) (l.bytes ∷ token_lines ls)

-- those after the header's line, of which the first piece is what is left
abbrev pub lines_behind : List Piece → List (List ℕ)
lines_behind [] = []
lines_behind (l ∷ ls) = token_lines ls

-- variables in front of variables
abbrev pub bound_before : Option (List Bound) → Option (List Bound) → Option (List Bound)
bound_before None rest = None
bound_before (Some bs) None = None
bound_before (Some bs) (Some cs) = Some (bs ++ cs)

-- the prefix, the lines in front that begin with a letter: all their variables in order; none where one of these lines is malformed
unfoldable pub prefix_of : List (List ℕ) → Option (List Bound)
prefix_of [] = Some []
prefix_of (l ∷ ls) = cond (is_variable_line l) (bound_before (variable_line l) (prefix_of ls)) (Some [])

-- the lines after the prefix, which are the clauses'
unfoldable pub behind_prefix : List (List ℕ) → List (List ℕ)
behind_prefix [] = []
behind_prefix (l ∷ ls) = cond (is_variable_line l) (behind_prefix ls) (l ∷ ls)

-- the tokens of some lines
unfoldable pub tokens_on : List (List ℕ) → List Piece
tokens_on [] = []
tokens_on (l ∷ ls) = tokens_from l 0 ++ tokens_on ls
