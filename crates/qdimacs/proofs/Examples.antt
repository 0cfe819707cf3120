-- Texts and what they mean, computed: each point of document 02's "Who can force the roster" on which two readers could differ.
use mathlib.Core.Path.{◌≡◌, refl}
use mathlib.Core.List.{List, [], ◌∷◌, ◌++◌}
use Prim.Native.Nat.{ℕ, suc}
use Prim.Native.String.{String}
use Rattle.words.specs.Booleans.{digit}
use Rattle.words.specs.Sets.{put}
use Rattle.words.specs.Sameness.{same}
use Rattle.lexer.specs.Spelling.{bytes}
use Rattle.lexer.specs.Bytes.{run, trimmed}
use Rattle.lexer.specs.Remarks.{lines_of, kept, without_remarks}
use Rattle.lexer.specs.Pieces.{cut, not_empty, parts_from}
use Rattle.numbers.specs.Numbers.{digits_after, decimal_of, number_read}
use Rattle.refusals.specs.Numbers.{number_of}
use Rattle.header.specs.Header.{past_remarks, header_of}
use Rattle.clauses.specs.Rows.{words_of_rows}
use Rattle.clauses.specs.Clauses.{clauses}
use Rattle.qdimacs.specs.Lines.{bound_on, prefix_of, behind_prefix, tokens_on}
use Rattle.qdimacs.specs.Text.{GameTurn, game_turns, GameText, game, no_game, game_text}

-- each turn's variable from 1, and 1 where the universal side fixes it
turn_numbers : List GameTurn → List ℕ
turn_numbers [] = []
turn_numbers (k ∷ ks) = suc k.variable ∷ (digit k.universal ∷ turn_numbers ks)

-- 0, the turns and the rows' words; or the refusal's number
numbers_of : GameText → List ℕ
numbers_of (game rows turns) = 0 ∷ (turn_numbers turns ++ words_of_rows rows)
numbers_of (no_game r) = number_of r ∷ []

meaning : String → List ℕ
unfolding game_text without_remarks lines_of kept header_of past_remarks parts_from cut not_empty run trimmed same clauses number_read decimal_of digits_after
    put
    bound_on prefix_of behind_prefix tokens_on game_turns
meaning s = numbers_of (game_text (bytes s))

-- ---- games

no_line : meaning "p cnf 2 2\n1 2 0\n-1 0\n" ≡ 0 ∷ (1 ∷ (0 ∷ (2 ∷ (0 ∷ (3 ∷ (0 ∷ (0 ∷ (1 ∷ []))))))))
unfolding meaning numbers_of turn_numbers
no_line = refl

in_prefix_order : meaning "p cnf 3 1\na 3 1 0\ne 2 0\n1 0\n" ≡ 0 ∷ (3 ∷ (1 ∷ (1 ∷ (1 ∷ (2 ∷ (0 ∷ (1 ∷ (0 ∷ []))))))))
unfolding meaning numbers_of turn_numbers
in_prefix_order = refl

-- those on no line come first, by number, and are the existential side's
unlisted-first : meaning "p cnf 3 1\na 2 0\n1 0\n" ≡ 0 ∷ (1 ∷ (0 ∷ (3 ∷ (0 ∷ (2 ∷ (1 ∷ (1 ∷ (0 ∷ []))))))))
unfolding meaning numbers_of turn_numbers
unlisted-first = refl

neighbouring_letters : meaning "p cnf 2 1\na 2 0\na 1 0\n1 0\n" ≡ 0 ∷ (2 ∷ (1 ∷ (1 ∷ (1 ∷ (1 ∷ (0 ∷ []))))))
unfolding meaning numbers_of turn_numbers
neighbouring_letters = refl

-- blanks, tabs and CRs as the header's; lines of separators alone before any line
spaced_lines : meaning "p cnf 2 1\n \n\r\ne \t1  0 \r\n\t\n\na 2 0\n\n1 2 0\n" ≡ 0 ∷ (1 ∷ (0 ∷ (2 ∷ (1 ∷ (3 ∷ (0 ∷ []))))))
unfolding meaning numbers_of turn_numbers
spaced_lines = refl

-- remarks before the header, between lines and between clauses, the last without an LF
remarks : meaning "c x\np cnf 2 2\nc a 9 0\na 1 0\nc\ne 2 0\nc 7\n1 0\nc\n2 0\nc" ≡ 0 ∷ (1 ∷ (1 ∷ (2 ∷ (0 ∷ (1 ∷ (0 ∷ (2 ∷ (0 ∷ []))))))))
unfolding meaning numbers_of turn_numbers
remarks = refl

-- ---- 5

no_variable_lem : meaning "p cnf 1 1\na 0\n1 0\n" ≡ 5 ∷ []
unfolding meaning numbers_of turn_numbers
no_variable_lem = refl

no_zero_on_the_line : meaning "p cnf 2 1\na 1\n0\n1 0\n" ≡ 5 ∷ []
unfolding meaning numbers_of turn_numbers
no_zero_on_the_line = refl

behind_the_zero : meaning "p cnf 2 1\na 1 0 2 0\n1 0\n" ≡ 5 ∷ []
unfolding meaning numbers_of turn_numbers
behind_the_zero = refl

letter_not-set_off : meaning "p cnf 1 1\na1 0\n1 0\n" ≡ 5 ∷ []
unfolding meaning numbers_of turn_numbers
letter_not-set_off = refl

letter_not-first : meaning "p cnf 1 1\n a 1 0\n1 0\n" ≡ 5 ∷ []
unfolding meaning numbers_of turn_numbers
letter_not-first = refl

line-behind-a_clause : meaning "p cnf 2 2\n1 0\na 2 0\n2 0\n" ≡ 5 ∷ []
unfolding meaning numbers_of turn_numbers
line-behind-a_clause = refl

return_between_parts : meaning "p cnf 1 1\na\r1 0\n1 0\n" ≡ 5 ∷ []
unfolding meaning numbers_of turn_numbers
return_between_parts = refl

no_number : meaning "p cnf 3 1\na 03 0\n1 0\n" ≡ 5 ∷ []
unfolding meaning numbers_of turn_numbers
no_number = refl

-- ---- 22, after 5

twice : meaning "p cnf 2 1\na 1 0\ne 1 0\n1 0\n" ≡ 22 ∷ []
unfolding meaning numbers_of turn_numbers
twice = refl

above_n : meaning "p cnf 2 1\na 3 0\n1 0\n" ≡ 22 ∷ []
unfolding meaning numbers_of turn_numbers
above_n = refl

many-digits : meaning "p cnf 2 1\na 100000000000000000000000000000000000001 0\n1 0\n" ≡ 22 ∷ []
unfolding meaning numbers_of turn_numbers
many-digits = refl

a-minus : meaning "p cnf 2 1\na -1 0\n1 0\n" ≡ 22 ∷ []
unfolding meaning numbers_of turn_numbers
a-minus = refl

five-first : meaning "p cnf 2 1\na 3 0\n1\n" ≡ 5 ∷ []
unfolding meaning numbers_of turn_numbers
five-first = refl

-- ---- 21, after 1 and 2 and before 5

twenty_one-first : meaning "p cnf 13 1\nx" ≡ 21 ∷ []
unfolding meaning numbers_of turn_numbers
twenty_one-first = refl

two-first : meaning "p cnf 13 0\n" ≡ 2 ∷ []
unfolding meaning numbers_of turn_numbers
two-first = refl

one-first : meaning "p cnf 33 1\n" ≡ 1 ∷ []
unfolding meaning numbers_of turn_numbers
one-first = refl

broken_header : meaning "p cnf 13\n" ≡ 5 ∷ []
unfolding meaning numbers_of turn_numbers
broken_header = refl
