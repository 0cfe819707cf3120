-- The order of refusals in the program through the whole budget, from bytes to bytes. By computation.
use mathlib.Core.Path.{◌≡◌, refl}
use mathlib.Core.List.{List}
use Prim.Native.Nat.{ℕ}
use Prim.Native.String.{String}
use Rattle.words.specs.Sameness.{same}
use Rattle.lexer.specs.Spelling.{bytes}
use Rattle.lexer.specs.Bytes.{run, trimmed}
use Rattle.lexer.specs.Pieces.{cut, not_empty, parts_from}
use Rattle.lexer.specs.Remarks.{lines_of, kept, without_remarks}
use Rattle.numbers.specs.Numbers.{digits_after, decimal_of, number_read}
use Rattle.words.specs.Sets.{put}
use Rattle.text.specs.Decimal.{decimal}
use Rattle.header.specs.Header.{past_remarks, header_of}
use Rattle.clauses.specs.Clauses.{clauses}
use Rattle.dimacs.specs.Text.{table_of}
use Rattle.lines.specs.Numbers.{field_of}
use Rattle.answers.specs.Printed.{refusal_text}
use Rattle.whole_reply.specs.WholeReply.{whole_text}

-- both stations have one row
printed : String → String → String → String → List ℕ
unfolding whole_text table_of without_remarks lines_of kept header_of past_remarks parts_from cut not_empty trimmed same clauses number_read decimal_of
    digits_after run
    field_of put refusal_text decimal
printed left right public line = whole_text (bytes left) (bytes right) (bytes public) (bytes line)

-- a text's 5 before all else
text_first : printed "p cnf 8 1\n1" "p cnf 7 1\n-1 0\n" "p cnf 8 0\n" "x" ≡ bytes "c refused 5\ns UNKNOWN\n"
unfolding printed
text_first = refl

-- 6 before 8
then-differ : printed "p cnf 8 1\n1 0\n" "p cnf 7 1\n-1 0\n" "p cnf 8 0\n" "x" ≡ bytes "c refused 6\ns UNKNOWN\n"
unfolding printed
then-differ = refl

-- 8 before 7: eight variables have a ceiling of 6,336 gates
then-line : printed "p cnf 8 1\n1 0\n" "p cnf 8 1\n-1 0\n" "p cnf 8 0\n" "65536" ≡ bytes "c refused 8\ns UNKNOWN\n"
unfolding printed
then-line = refl

-- 23 before 7
then_budget : printed "p cnf 8 1\n1 0\n" "p cnf 8 1\n-1 0\n" "p cnf 8 0\n" "65536\n" ≡ bytes "c refused 23\ns UNKNOWN\n"
unfolding printed
then_budget = refl

-- 65,535 is taken, and so is 0, so that 7 is left
then-ceiling : printed "p cnf 8 1\n1 0\n" "p cnf 8 1\n-1 0\n" "p cnf 8 0\n" "65535\n" ≡ bytes "c refused 7\ns UNKNOWN\n"
unfolding printed
then-ceiling = refl

no_budget : printed "p cnf 8 1\n1 0\n" "p cnf 8 1\n-1 0\n" "p cnf 8 0\n" "0\n" ≡ bytes "c refused 7\ns UNKNOWN\n"
unfolding printed
no_budget = refl
