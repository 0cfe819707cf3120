-- What the laws come to in small games, computed: each law is used, so that one that said less would be refused here.
use mathlib.Core.Path.{◌≡◌, refl, sym}
use mathlib.Core.Bool.{Bool, true, false, true≢false}
use mathlib.Core.List.{List, [], ◌∷◌}
use Prim.Native.Nat.{ℕ}
use Prim.Native.String.{String}
use Rattle.words.specs.declared.Row.{Row}
use Rattle.words.specs.Sets.{put, bit, any}
use Rattle.words.specs.Sameness.{same}
use Rattle.lexer.specs.Spelling.{bytes}
use Rattle.lexer.specs.Bytes.{run, trimmed}
use Rattle.lexer.specs.Remarks.{lines_of, kept, without_remarks}
use Rattle.lexer.specs.Pieces.{cut, not_empty, parts_from}
use Rattle.numbers.specs.Numbers.{digits_after, decimal_of, number_read}
use Rattle.header.specs.Header.{past_remarks, header_of}
use Rattle.clauses.specs.Clauses.{clauses}
use Rattle.scan.specs.Rules.{all_rows}
use Rattle.truth.specs.Truth.{row_true, all_true}
use Rattle.qdimacs.specs.Lines.{bound_on, prefix_of, behind_prefix, tokens_on}
use Rattle.qdimacs.specs.Text.{GameTurn, game_turns, GameText, game, game_text}
use Rattle.game.specs.Game.{fixed, unfixed, forced}
use Rattle.game.specs.Strategies.{ExistentialForces, UniversalForces}
use Rattle.game.proofs.Answers.{one_side, text_holds}
use Rattle.game.proofs.Strategies.{forced_formula, formula_forced}
use Rattle.game.proofs.Satisfiability.{text_unfixed, plain-forced, plain_satisfiable}

meaning : String → GameText
unfolding game_text without_remarks lines_of kept header_of past_remarks parts_from cut not_empty run trimmed same clauses number_read decimal_of digits_after
    put
    bound_on prefix_of behind_prefix tokens_on game_turns
meaning s = game_text (bytes s)

abbrev row : ℕ → ℕ → Row
row p q = record { positive = p; negative = q }

abbrev turn : ℕ → Bool → GameTurn
turn v u = record { variable = v; universal = u }

-- ---- 2 is to be like 1

abbrev alike : List Row
alike = row 1 2 ∷ (row 2 1 ∷ [])

-- the universal side fixes 1, then the existential side 2
abbrev answering : List GameTurn
answering = turn 0 true ∷ (turn 1 false ∷ [])

-- the other way round
abbrev guessing : List GameTurn
guessing = turn 1 false ∷ (turn 0 true ∷ [])

abbrev answering_text : String
answering_text = "p cnf 2 2\na 1 0\ne 2 0\n1 -2 0\n-1 2 0\n"

answering-read : meaning answering_text ≡ game alike answering
unfolding meaning
answering-read = refl

abbrev guessing_text : String
guessing_text = "p cnf 2 2\ne 2 0\na 1 0\n1 -2 0\n-1 2 0\n"

guessing-read : meaning guessing_text ≡ game alike guessing
unfolding meaning
guessing-read = refl

-- who answers wins, and then the other has no plan
answering_wins : ExistentialForces alike answering unfixed
unfolding meaning forced all_true row_true all_rows any bit
answering_wins = (text_holds (bytes answering_text) alike answering answering-read).1

never_both : UniversalForces alike answering unfixed → ⊥
never_both = one_side alike answering unfixed answering_wins

-- who must guess loses
guessing_loses : UniversalForces alike guessing unfixed
unfolding meaning forced all_true row_true all_rows any bit
guessing_loses = (text_holds (bytes guessing_text) alike guessing guessing-read).1

-- in quantifiers: for each value of 1 there is one of 2, but no one value of 2 serves both
for_each : (b : Bool) → (c : Bool) × (all_true (fixed (fixed unfixed 0 b) 1 c) alike ≡ true)
unfolding forced all_true row_true all_rows any bit
for_each = forced_formula alike answering unfixed refl

not_for_both : (c : Bool) × ((b : Bool) → all_true (fixed (fixed unfixed 1 c) 0 b) alike ≡ true) → ⊥
unfolding forced all_true row_true all_rows any bit
not_for_both h = true≢false (sym (formula_forced alike guessing unfixed h))

-- whatever 1 and 2 were before
before-any-turn : (a : ℕ → Bool) → forced alike guessing a ≡ false
unfolding meaning forced all_true row_true all_rows any bit
before-any-turn a = text_unfixed (bytes guessing_text) alike guessing guessing-read a

-- ---- where the winner moves first

-- 1 or 2, and not 1: no variable on a line, and 1 is to be false
abbrev second : List Row
second = row 3 0 ∷ (row 0 1 ∷ [])

abbrev own : List GameTurn
own = turn 0 false ∷ (turn 1 false ∷ [])

abbrev second_text : String
second_text = "p cnf 2 2\n1 2 0\n-1 0\n"

second-read : meaning second_text ≡ game second own
unfolding meaning
second-read = refl

false_serves : ExistentialForces second (turn 1 false ∷ []) (fixed unfixed 0 false)
unfolding meaning forced all_true row_true all_rows any bit
false_serves = (text_holds (bytes second_text) second own second-read).2

true_fails : ExistentialForces second (turn 1 false ∷ []) (fixed unfixed 0 true) → ⊥
unfolding meaning forced all_true row_true all_rows any bit
true_fails = (text_holds (bytes second_text) second own second-read).3 refl

-- an assignment makes both rows true
satisfied : (m : ℕ → Bool) × (all_true m second ≡ true)
unfolding meaning forced all_true row_true all_rows any bit
satisfied = plain_satisfiable (bytes second_text) second own second-read refl refl

-- 1, fixed by the universal side: false, and true does not serve
abbrev single_text : String
single_text = "p cnf 1 1\na 1 0\n1 0\n"

single_read : meaning single_text ≡ game (row 1 0 ∷ []) (turn 0 true ∷ [])
unfolding meaning
single_read = refl

false_spoils : UniversalForces (row 1 0 ∷ []) [] (fixed unfixed 0 false)
unfolding meaning forced all_true row_true all_rows any bit
false_spoils = (text_holds (bytes single_text) (row 1 0 ∷ []) (turn 0 true ∷ []) single_read).2

true_spoils_not : UniversalForces (row 1 0 ∷ []) [] (fixed unfixed 0 true) → ⊥
unfolding meaning forced all_true row_true all_rows any bit
true_spoils_not = (text_holds (bytes single_text) (row 1 0 ∷ []) (turn 0 true ∷ []) single_read).3 refl

-- ---- rows that contradict each other

abbrev contrary_text : String
contrary_text = "p cnf 1 2\n1 0\n-1 0\n"

contrary_read : meaning contrary_text ≡ game (row 1 0 ∷ (row 0 1 ∷ [])) (turn 0 false ∷ [])
unfolding meaning
contrary_read = refl

-- no assignment makes both true: the existential side would win
unsatisfied : (m : ℕ → Bool) → all_true m (row 1 0 ∷ (row 0 1 ∷ [])) ≡ true → ⊥
unfolding meaning forced all_true row_true all_rows any bit
unsatisfied m h = true≢false (sym (plain-forced (bytes contrary_text) (row 1 0 ∷ (row 0 1 ∷ [])) (turn 0 false ∷ []) contrary_read refl m h))
