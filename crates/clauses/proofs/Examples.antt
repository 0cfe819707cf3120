-- Clauses of small texts with their places, computed.
use mathlib.Core.Path.{◌≡◌, refl}
use mathlib.Core.Bool.{true, false}
use mathlib.Core.List.{[], ◌∷◌}
use Prim.Native.Nat.{ℕ}
use Prim.Native.String.{String}
use Rattle.lexer.specs.Spelling.{bytes}
use Rattle.lexer.specs.Pieces.{cut, not_empty}
use Rattle.lexer.specs.Blanks.{blanked, tokens_past}
use Rattle.numbers.specs.Numbers.{digits_after, decimal_of, number_read}
use Rattle.clauses.specs.Rows.{Literal}
use Rattle.clauses.specs.Clauses.{Reading, clause, ended, unreadable, clauses}
use Rattle.clauses.specs.First.{clauses_from}

-- the clauses of a text over three variables, read from within a line
reading : String → Reading
unfolding clauses tokens_past blanked cut not_empty number_read decimal_of digits_after
reading s = clauses_from 3 (bytes s) 0

-- variable i + 1, as it is and with a minus
abbrev plus : ℕ → Literal
plus i = record { minus = false; bit = i }

abbrev minus : ℕ → Literal
minus i = record { minus = true; bit = i }

nothing : reading " \t\r\n" ≡ ended
unfolding reading
nothing = refl

over_lines : reading " 1\n-3\n\n0 0" ≡ clause (plus 0 ∷ (minus 2 ∷ [])) 1 8 (clause [] 9 10 ended)
unfolding reading
over_lines = refl

repeated : reading "2 2 -2 0\n" ≡ clause (plus 1 ∷ (plus 1 ∷ (minus 1 ∷ []))) 0 8 ended
unfolding reading
repeated = refl

last-zero : reading "1 0 2" ≡ clause (plus 0 ∷ []) 0 3 unreadable
unfolding reading
last-zero = refl

above_n : reading "3 0 4 0" ≡ clause (plus 2 ∷ []) 0 3 unreadable
unfolding reading
above_n = refl

joined_signs : reading "1-2 0" ≡ unreadable
unfolding reading
joined_signs = refl

-- a remark right after the place, in the middle of a clause, at the end without an LF; places are the text's
remarks : reading "\nc 1 0\n1\nc \r\n\nc-\n-3 0\nc 2" ≡ clause (plus 0 ∷ (minus 2 ∷ [])) 7 21 ended
unfolding reading
remarks = refl

-- only a line's first byte makes a remark
second-byte : reading "\n c 1 0\n" ≡ unreadable
unfolding reading
second-byte = refl

in_line_lem : reading "1 c\n0" ≡ unreadable
unfolding reading
in_line_lem = refl

no_line-start : reading "c\n0" ≡ unreadable
unfolding reading
no_line-start = refl
