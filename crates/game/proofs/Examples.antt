-- Texts and their answers, computed: 0, the winner (1 existential, 2 universal), the first variable where the winner moves first, and its value.
use mathlib.Core.Path.{◌≡◌, refl}
use mathlib.Core.List.{List, [], ◌∷◌}
use Prim.Native.Nat.{ℕ}
use Prim.Native.String.{String}
use Rattle.words.specs.Sets.{put, bit, any}
use Rattle.words.specs.Sameness.{same}
use Rattle.lexer.specs.Spelling.{bytes}
use Rattle.lexer.specs.Bytes.{run, trimmed}
use Rattle.lexer.specs.Remarks.{lines_of, kept, without_remarks}
use Rattle.lexer.specs.Pieces.{cut, not_empty, parts_from}
use Rattle.numbers.specs.Numbers.{digits_after, decimal_of, number_read}
use Rattle.header.specs.Header.{past_remarks, header_of}
use Rattle.clauses.specs.Clauses.{clauses}
use Rattle.scan.specs.Rules.{all_rows}
use Rattle.truth.specs.Truth.{row_true, all_true}
use Rattle.qdimacs.specs.Lines.{bound_on, prefix_of, behind_prefix, tokens_on}
use Rattle.qdimacs.specs.Text.{game_turns, game_text}
use Rattle.game.specs.Game.{forced, game_said}

answer : String → List ℕ
unfolding game_text without_remarks lines_of kept header_of past_remarks parts_from cut not_empty run trimmed same clauses number_read decimal_of digits_after
    put
    bound_on prefix_of behind_prefix tokens_on game_turns forced all_true row_true all_rows any bit
answer s = game_said (game_text (bytes s))

abbrev won : ℕ → ℕ → ℕ → List ℕ
won side variable value = 0 ∷ (side ∷ (variable ∷ (value ∷ [])))

-- no variable on a line: plain satisfiability, here with 1 false
satisfiable : answer "p cnf 2 2\n1 2 0\n-1 0\n" ≡ won 1 1 0
unfolding answer
satisfiable = refl

unsatisfiable : answer "p cnf 1 2\n1 0\n-1 0\n" ≡ won 2 0 0
unfolding answer
unsatisfiable = refl

-- true where both values serve
both_serve : answer "p cnf 2 1\n2 0\n" ≡ won 1 1 1
unfolding answer
both_serve = refl

-- for each value of 1 there is one of 2
answered : answer "p cnf 2 2\na 1 0\ne 2 0\n1 -2 0\n-1 2 0\n" ≡ won 1 0 0
unfolding answer
answered = refl

-- the other way round the universal side wins, and moves last
answered-late : answer "p cnf 2 2\ne 2 0\na 1 0\n1 -2 0\n-1 2 0\n" ≡ won 2 0 0
unfolding answer
answered-late = refl

-- a variable on no line comes first: 2 is fixed before 1
unlisted-first : answer "p cnf 2 2\na 1 0\n1 -2 0\n-1 2 0\n" ≡ won 2 0 0
unfolding answer
unlisted-first = refl

-- the universal side wins and moves first
with-true : answer "p cnf 1 1\na 1 0\n-1 0\n" ≡ won 2 1 1
unfolding answer
with-true = refl

with-false : answer "p cnf 1 1\na 1 0\n1 0\n" ≡ won 2 1 0
unfolding answer
with-false = refl

-- padding is always true, an empty clause never
padding-true : answer "p cnf 1 1\na 1 0\n1 -1 0\n" ≡ won 1 0 0
unfolding answer
padding-true = refl

empty_never : answer "p cnf 1 1\na 1 0\n0\n" ≡ won 2 1 1
unfolding answer
empty_never = refl

-- the first variable occurs in no row, and has its turn all the same
first_in_no_row : answer "p cnf 3 1\na 3 0\ne 1 2 0\n1 0\n" ≡ won 1 0 0
unfolding answer
first_in_no_row = refl

turned-back : answer "p cnf 2 1\na 1 1 0\n1 0\n" ≡ 22 ∷ []
unfolding answer
turned-back = refl
