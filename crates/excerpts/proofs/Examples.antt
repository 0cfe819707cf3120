-- Clauses of two small texts by their rows' numbers, and what is refused in which order, computed.
use mathlib.Core.Path.{◌≡◌, refl}
use mathlib.Core.List.{List, [], ◌∷◌}
use Prim.Native.Nat.{ℕ}
use Prim.Native.String.{String}
use Rattle.words.specs.Sets.{put}
use Rattle.words.specs.Sameness.{same}
use Rattle.lexer.specs.Spelling.{bytes}
use Rattle.lexer.specs.Bytes.{run, trimmed}
use Rattle.lexer.specs.Remarks.{lines_of, kept, without_remarks}
use Rattle.lexer.specs.Pieces.{cut, not_empty, parts_from}
use Rattle.lexer.specs.Blanks.{blanked, tokens_past}
use Rattle.numbers.specs.Numbers.{digits_after, decimal_of, number_read}
use Rattle.header.specs.Header.{past_remarks, header_of}
use Rattle.clauses.specs.Clauses.{clauses}
use Rattle.dimacs.specs.Text.{table_of}
use Rattle.dimensions.specs.declared.Dimensions.{Dimensions}
use Rattle.tables.specs.Tables.{Tables, all_tables}
use Rattle.tables.specs.Acceptance.{all_below}
use Rattle.excerpts.specs.Excerpts.{skip, clause_of, clause_place, placed, placed_code, placed_numbers, clause_bytes}

-- three left rows, a right one and a public one, over three variables
abbrev sizes : Dimensions
sizes = record { n = 3; left = 3; right = 1; public = 1 }

-- a clause over several lines with a remark inside, an empty one, padding
abbrev text_of_left : String
text_of_left = "c\np cnf 3 3\n 1\t-2\r\nc 2 0\n\n  3 0 0\n-3 3 0\nc"

abbrev text_of_right : String
text_of_right = "p cnf 3 1\n2 2\n\t0 "

-- the rows as they are read from them, and a public row
abbrev tables : Tables
tables = all_tables (5 ∷ (2 ∷ (0 ∷ (0 ∷ (4 ∷ (4 ∷ [])))))) (2 ∷ (0 ∷ [])) (1 ∷ (0 ∷ []))

-- the third left row, which was padding, replaced
abbrev replaced : Tables
replaced = all_tables (5 ∷ (2 ∷ (0 ∷ (0 ∷ (4 ∷ (0 ∷ [])))))) (2 ∷ (0 ∷ [])) (1 ∷ (0 ∷ []))

-- a buffer of the left station that is too short
abbrev too_short : Tables
too_short = all_tables (5 ∷ (2 ∷ (0 ∷ []))) (2 ∷ (0 ∷ [])) (1 ∷ (0 ∷ []))

-- the bytes of a row's clause
excerpt : Tables → String → String → ℕ → List ℕ
unfolding clause_bytes clause_of skip tokens_past blanked table_of without_remarks lines_of kept header_of past_remarks parts_from cut not_empty run trimmed
    same clauses
    number_read decimal_of digits_after put all_below
excerpt t l r number = clause_bytes sizes t (bytes l) (bytes r) number

-- what asking for its place says: 0, station, start and length, or the refusal
place : Tables → String → String → ℕ → List ℕ
unfolding placed clause_place clause_of skip tokens_past blanked table_of without_remarks lines_of kept header_of past_remarks parts_from cut not_empty run
    trimmed same
    clauses number_read decimal_of digits_after put all_below
place t l r number = let p = placed sizes t (bytes l) (bytes r) number in placed_code p ∷ placed_numbers p

-- ---- bytes and places

-- spacing and the remark stay as they are in the text
over_lines : excerpt tables text_of_left text_of_right 1 ≡ bytes "1\t-2\r\nc 2 0\n\n  3 0"
unfolding excerpt
over_lines = refl

over_lines_place : place tables text_of_left text_of_right 1 ≡ 0 ∷ (0 ∷ (13 ∷ (18 ∷ [])))
unfolding place
over_lines_place = refl

empty_clause : excerpt tables text_of_left text_of_right 2 ≡ bytes "0"
unfolding excerpt
empty_clause = refl

empty_clause_place : place tables text_of_left text_of_right 2 ≡ 0 ∷ (0 ∷ (32 ∷ (1 ∷ [])))
unfolding place
empty_clause_place = refl

last-left : excerpt tables text_of_left text_of_right 3 ≡ bytes "-3 3 0"
unfolding excerpt
last-left = refl

last_row : excerpt tables text_of_left text_of_right 4 ≡ bytes "2 2\n\t0"
unfolding excerpt
last_row = refl

last-row-place : place tables text_of_left text_of_right 4 ≡ 0 ∷ (1 ∷ (10 ∷ (6 ∷ [])))
unfolding place
last-row-place = refl

-- a replaced row has no bytes, and the others have theirs
replaced-row : excerpt replaced text_of_left text_of_right 3 ≡ []
unfolding excerpt
replaced-row = refl

replaced-place : place replaced text_of_left text_of_right 3 ≡ 0 ∷ (0 ∷ (0 ∷ (0 ∷ [])))
unfolding place
replaced-place = refl

beside-replaced : excerpt replaced text_of_left text_of_right 2 ≡ bytes "0"
unfolding excerpt
beside-replaced = refl

-- ---- refusals in order

-- the tables' before the texts'
tables-first : place too_short "" "" 0 ≡ 4 ∷ []
unfolding place
tables-first = refl

-- the left text's before the right text's
left-first : place tables "p cnf 3 3\n1 0" "p cnf 33 1\n1 0" 0 ≡ 5 ∷ []
unfolding place
left-first = refl

then_right : place tables text_of_left "p cnf 33 1\n1 0" 0 ≡ 1 ∷ []
unfolding place
then_right = refl

-- 2, a station's text without rows
right_without-rows : place tables text_of_left "p cnf 3 0\n" 4 ≡ 2 ∷ []
unfolding place
right_without-rows = refl

-- 6 before 17
texts-differ : place tables text_of_left "p cnf 2 1\n2 0" 0 ≡ 6 ∷ []
unfolding place
texts-differ = refl

-- 17: row 0, a public row, a row past the last
row_zero : place tables text_of_left text_of_right 0 ≡ 17 ∷ []
unfolding place
row_zero = refl

public_row : place tables text_of_left text_of_right 5 ≡ 17 ∷ []
unfolding place
public_row = refl

past_the_last : place tables text_of_left text_of_right 6 ≡ 17 ∷ []
unfolding place
past_the_last = refl

-- 17: another n in both texts, another row count in one
other-n : place tables "p cnf 2 3\n1 0 1 0 1 0" "p cnf 2 1\n2 0" 1 ≡ 17 ∷ []
unfolding place
other-n = refl

other-left-rows : place tables "p cnf 3 2\n1 0 1 0" text_of_right 1 ≡ 17 ∷ []
unfolding place
other-left-rows = refl

other_right_rows : place tables text_of_left "p cnf 3 2\n2 0 2 0" 1 ≡ 17 ∷ []
unfolding place
other_right_rows = refl

-- a refused row has no bytes
no_bytes : excerpt tables text_of_left text_of_right 5 ≡ []
unfolding excerpt
no_bytes = refl
