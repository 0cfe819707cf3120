-- What lines say, computed: each point of document 02's paragraph, over two variables.
use mathlib.Core.Path.{◌≡◌, refl}
use Prim.Native.Nat.{ℕ}
use Prim.Native.String.{String}
use Rattle.words.specs.declared.Row.{Row}
use Rattle.words.specs.Sets.{put}
use Rattle.lexer.specs.Spelling.{bytes}
use Rattle.lexer.specs.Bytes.{run}
use Rattle.lexer.specs.Pieces.{cut, not_empty, parts_from}
use Rattle.numbers.specs.Numbers.{digits_after, decimal_of, number_read}
use Rattle.clauses.specs.Clauses.{clauses}
use Rattle.drat_line.specs.declared.Said.{Said}
use Rattle.drat_line.specs.declared.Said.TheVariants.{Nothing, Added, Deleted, Malformed}
use Rattle.drat_line.specs.Lines.{has_break, clause_in, line_said}

abbrev row : ℕ → ℕ → Row
row p q = record { positive = p; negative = q }

line : String → Said
unfolding line_said clause_in has_break clauses parts_from cut not_empty run number_read decimal_of digits_after put
line s = line_said 2 (bytes s)

-- an addition, with spaces, tabs and a CR around it; a literal that is repeated counts once
set_off : line " 1 \t-2  1 0 \r" ≡ Added (row 1 2)
unfolding line
set_off = refl

-- a deletion, with blanks before `d` and after its space
deletion : line "\td  1 2 0" ≡ Deleted (row 3 0)
unfolding line
deletion = refl

-- the empty clause added, and deleted
empty-added : line "0" ≡ Added (row 0 0)
unfolding line
empty-added = refl

empty_deleted : line "d 0" ≡ Deleted (row 0 0)
unfolding line
empty_deleted = refl

-- a variable in both signs
both_signs : line "2 -2 0" ≡ Added (row 2 2)
unfolding line
both_signs = refl

-- nothing: an empty line, blanks, a CR
empty-line : line "" ≡ Nothing
unfolding line
empty-line = refl

blanks : line " \t\r" ≡ Nothing
unfolding line
blanks = refl

-- `d` is followed by a space at once, and its clause by nothing
d-alone : line "d" ≡ Malformed
unfolding line
d-alone = refl

d-and-space : line "d " ≡ Malformed
unfolding line
d-and-space = refl

d-and_tab : line "d\t1 0" ≡ Malformed
unfolding line
d-and_tab = refl

d-line_before : line "d1 0" ≡ Malformed
unfolding line
d-line_before = refl

-- no 0, and more after a 0
no_zero : line "1 2" ≡ Malformed
unfolding line
no_zero = refl

two-clauses : line "1 0 2 0" ≡ Malformed
unfolding line
two-clauses = refl

-- numbers as document 01 has them, and none above n
minus-zero : line "1 -0" ≡ Malformed
unfolding line
minus-zero = refl

leading_zero_lem : line "01 0" ≡ Malformed
unfolding line
leading_zero_lem = refl

plus : line "+1 0" ≡ Malformed
unfolding line
plus = refl

above_n : line "3 0" ≡ Malformed
unfolding line
above_n = refl

-- a CR inside the line, two at its end, a remark
return_inside : line "1\r 0" ≡ Malformed
unfolding line
return_inside = refl

two-returns : line "1 0\r\r" ≡ Malformed
unfolding line
two-returns = refl

remark : line "c 1 0" ≡ Malformed
unfolding line
remark = refl
