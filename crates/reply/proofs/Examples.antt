-- Document 01's example, a public rule and the order of refusals, from bytes to bytes. By computation.
use mathlib.Core.Path.{◌≡◌, refl}
use mathlib.Core.List.{List}
use Prim.Native.Nat.{ℕ}
use Prim.Native.String.{String}
use Rattle.words.specs.Sets.{bit, put, any, count, lowest}
use Rattle.words.specs.Sameness.{same}
use Rattle.lexer.specs.Spelling.{bytes}
use Rattle.lexer.specs.Bytes.{run, trimmed}
use Rattle.lexer.specs.Pieces.{cut, not_empty, parts_from}
use Rattle.numbers.specs.Numbers.{digits_after, decimal_of, number_read}
use Rattle.text.specs.Decimal.{decimal}
use Rattle.tables.specs.Rows.{padding, satisfied, free_literals}
use Rattle.tables.specs.Acceptance.{all_below}
use Rattle.lexer.specs.Remarks.{lines_of, kept, without_remarks}
use Rattle.header.specs.Header.{past_remarks, header_of}
use Rattle.clauses.specs.Clauses.{clauses}
use Rattle.dimacs.specs.Text.{table_of}
use Rattle.solver.specs.Entries.{answer_of, solved}
use Rattle.lines.specs.Numbers.{field_of}
use Rattle.answers.specs.Printed.{literals, answer_text, refusal_text}
use Rattle.reply.specs.Reply.{reply_text}

printed : String → String → String → String → List ℕ
unfolding reply_text solved answer_of table_of without_remarks lines_of kept header_of past_remarks parts_from cut not_empty trimmed same clauses number_read
    decimal_of
    digits_after run field_of put bit any count lowest padding satisfied free_literals all_below literals answer_text refusal_text decimal
printed left right public line = reply_text (bytes left) (bytes right) (bytes public) (bytes line)

-- no public rest rules
example : printed "p cnf 2 1\n1 2 0\n" "p cnf 2 1\n-1 0\n" "p cnf 2 0\n" "9\n" ≡ bytes "c steps 3\ns SATISFIABLE\nv -1 2 0\n"
unfolding printed
example = refl

-- a public rule closes the way out
public_decides : printed "p cnf 2 1\n1 2 0\n" "p cnf 2 1\n-1 0\n" "p cnf 2 1\n-2 0\n" "9\n" ≡ bytes "c steps 3\ns UNSATISFIABLE\n"
unfolding printed
public_decides = refl

unsatisfiable : printed "p cnf 2 2\n1 2 0 1 -2 0" "p cnf 2 2\n-1 2 0 -1 -2 0" "p cnf 2 0" "9\n" ≡ bytes "c steps 5\ns UNSATISFIABLE\n"
unfolding printed
unsatisfiable = refl

unknown : printed "p cnf 2 2\n1 2 0 1 -2 0" "p cnf 2 2\n-1 2 0 -1 -2 0" "p cnf 2 0" "4\n" ≡ bytes "c steps 4\ns UNKNOWN\n"
unfolding printed
unknown = refl

-- left's 5 before right's 1
left-first : printed "p cnf 2 1\n1 2" "p cnf 33 1\n-1 0\n" "p cnf 2 129" "\n" ≡ bytes "c refused 5\ns UNKNOWN\n"
unfolding printed
left-first = refl

-- right's 5 before the public text's 2
then_right : printed "p cnf 2 1\n1 2 0\n" "p cnf 2 1\n-1" "p cnf 2 129" "\n" ≡ bytes "c refused 5\ns UNKNOWN\n"
unfolding printed
then_right = refl

-- the public text's 2 before 6
then_public : printed "p cnf 2 1\n1 2 0\n" "p cnf 3 1\n-1 0\n" "p cnf 2 129" "\n" ≡ bytes "c refused 2\ns UNKNOWN\n"
unfolding printed
then_public = refl

-- 6 before 8
differ-first : printed "p cnf 2 1\n1 2 0\n" "p cnf 3 1\n-1 0\n" "p cnf 2 0" "\n" ≡ bytes "c refused 6\ns UNKNOWN\n"
unfolding printed
differ-first = refl

-- the public text alone has another n
public_differs : printed "p cnf 2 1\n1 2 0\n" "p cnf 2 1\n-1 0\n" "p cnf 3 0" "\n" ≡ bytes "c refused 6\ns UNKNOWN\n"
unfolding printed
public_differs = refl

line-last : printed "p cnf 2 1\n1 2 0\n" "p cnf 2 1\n-1 0\n" "p cnf 2 0" "\n" ≡ bytes "c refused 8\ns UNKNOWN\n"
unfolding printed
line-last = refl
