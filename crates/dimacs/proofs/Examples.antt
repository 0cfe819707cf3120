-- A dozen texts and what they mean, computed.
use mathlib.Core.Path.{◌≡◌, refl}
use mathlib.Core.List.{List, [], ◌∷◌}
use Prim.Native.Nat.{ℕ}
use Prim.Native.String.{String}
use lib.ListN.{take}
use Rattle.words.specs.Sets.{put}
use Rattle.words.specs.Sameness.{same}
use Rattle.lexer.specs.Spelling.{bytes}
use Rattle.lexer.specs.Bytes.{run, trimmed}
use Rattle.lexer.specs.Remarks.{lines_of, kept, without_remarks}
use Rattle.lexer.specs.Pieces.{cut, not_empty, parts_from}
use Rattle.numbers.specs.Numbers.{digits_after, decimal_of, number_read}
use Rattle.refusals.specs.Numbers.{code_of}
use Rattle.header.specs.Header.{past_remarks, header_of}
use Rattle.clauses.specs.Clauses.{clauses}
use Rattle.dimacs.specs.Text.{table_of}

-- the outcome, n, the row count and the first four words of a text with the least row count that it may have
meaning_of : ℕ → String → List ℕ
unfolding table_of without_remarks lines_of kept header_of past_remarks parts_from cut not_empty run trimmed same clauses number_read decimal_of digits_after
    put
meaning_of least s = let t = table_of least (bytes s) in code_of t.outcome ∷ (t.n ∷ (t.rows ∷ take 4 t.words))

-- of a station's text
meaning : String → List ℕ
unfolding meaning_of
meaning = meaning_of 1

-- of the public one
public_meaning : String → List ℕ
unfolding meaning_of
public_meaning = meaning_of 0

abbrev table : ℕ → ℕ → ℕ → ℕ → ℕ → ℕ → List ℕ
table n m a b c d = 0 ∷ (n ∷ (m ∷ (a ∷ (b ∷ (c ∷ (d ∷ []))))))

abbrev refusal : ℕ → List ℕ
refusal k = k ∷ (0 ∷ (0 ∷ (0 ∷ (0 ∷ (0 ∷ (0 ∷ []))))))

several_lines : meaning "c one\nc\np cnf 3 2\n1\n-2 0 3\n\n0" ≡ table 3 2 1 2 4 0
unfolding meaning
several_lines = refl

tabs_and-returns : meaning "p\tcnf \t2\t1 \t\r\n\t1\t2\r\n0\r" ≡ table 2 1 3 0 0 0
unfolding meaning
tabs_and-returns = refl

largest_variable : meaning "p cnf 32 1\n-32 32 0" ≡ table 32 1 2147483648 2147483648 0 0
unfolding meaning
largest_variable = refl

empty_clause : meaning "p cnf 1 2\n0 1 0" ≡ table 1 2 0 0 1 0
unfolding meaning
empty_clause = refl

repeated-literals : meaning "p cnf 2 1\n2 2 -1 2 -1 0" ≡ table 2 1 2 1 0 0
unfolding meaning
repeated-literals = refl

minus-zero : meaning "p cnf 2 1\n1 2 -0" ≡ refusal 5
unfolding meaning
minus-zero = refl

far_above_n : meaning "p cnf 2 1\n1 -100000000000000000000000000001 0" ≡ refusal 5
unfolding meaning
far_above_n = refl

clause_too_many : meaning "p cnf 2 1\n1 0 2 0" ≡ refusal 5
unfolding meaning
clause_too_many = refl

-- remarks right after the header, in the middle of a clause, as the last line without an LF
remarks : meaning "c\np cnf 2 2\nc 1 0\n1\nc x\r\nc\n2 0\n-1 0\nc 2 0" ≡ table 2 2 3 0 0 1
unfolding meaning
remarks = refl

-- an empty line before the header is no remark
remarks_empty-line : meaning "c\n\np cnf 2 1\n1 2 0" ≡ refusal 5
unfolding meaning
remarks_empty-line = refl

c_in_line : meaning "p cnf 2 1\n1 c\n2 0" ≡ refusal 5
unfolding meaning
c_in_line = refl

c_second : meaning "p cnf 2 1\n c\n1 2 0" ≡ refusal 5
unfolding meaning
c_second = refl

return_in_header : meaning "p cnf 2\r1\n1 2 0" ≡ refusal 5
unfolding meaning
return_in_header = refl

rows_of_any-length : meaning "p cnf 1 100000000000000000000000000000\nx" ≡ refusal 2
unfolding meaning
rows_of_any-length = refl

variables_first : meaning "p cnf 33 0\nx" ≡ refusal 1
unfolding meaning
variables_first = refl

-- a public text may have no rows, and then no clause
no_rows : public_meaning "p cnf 3 0\nc none\n" ≡ table 3 0 0 0 0 0
unfolding public_meaning
no_rows = refl

clause_behind_no_rows : public_meaning "p cnf 3 0\n1 0\n" ≡ refusal 5
unfolding public_meaning
clause_behind_no_rows = refl

station_without-rows : meaning "p cnf 3 0\n" ≡ refusal 2
unfolding meaning
station_without-rows = refl

-- its header's 2 comes before 5 too
public_rows-first : public_meaning "p cnf 3 129\nx" ≡ refusal 2
unfolding public_meaning
public_rows-first = refl
