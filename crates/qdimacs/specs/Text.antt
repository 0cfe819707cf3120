-- What a QDIMACS text means: rows and the turns in which two sides fix its variables, or refusal 1, 2, 21, 5 or 22 (document 02, "Who can
-- force the roster").
-- Ask: Is 21 before 5 before 22?
use Rattle.std.specs.Prelude.{
  ℕ,
  zero,
  suc,
  ◌-◌,
  Bool,
  true,
  false,
  not,
  ◌&&◌,
  ◌||◌,
  cond,
  List,
  [],
  ◌∷◌,
  ◌++◌,
  eqb,
  ltb,
  length,
  Option,
  Some,
  None,
  Result,
  Ok,
  Err,
}
use Rattle.lexer.specs.Remarks.{without_remarks}
use Rattle.lexer.specs.Pieces.{lines_from}
use Rattle.refusals.specs.declared.Refusal.{Refusal}
use Rattle.refusals.specs.declared.Refusal.TheVariants.{Text, GameVariables, LineVariables}
use Rattle.words.specs.declared.Row.{Row}
use Rattle.header.specs.Header.{beyond, header_of}
use Rattle.clauses.specs.Clauses.{Reading, clauses, clause_rows, complete}
use Rattle.qdimacs.specs.Lines.{Bound, lines_behind, prefix_of, behind_prefix, tokens_on}

-- "21, n above 12"
abbrev pub most_game_variables : ℕ
most_game_variables = 12

-- ---- "22, a variable on the lines twice or outside 1 to n"

-- whether a value is that of one of some numbers of the lines
abbrev pub on_line : ℕ → List Bound → Bool
on_line v [] = false
on_line v (b ∷ bs) = eqb b.value v || on_line v bs

-- each is one of 1 to n, and none occurs twice
abbrev pub proper : ℕ → List Bound → Bool
proper n [] = true
proper n (b ∷ bs) = not (beyond 1 n b.minus b.value) && not (on_line b.value bs) && proper n bs

-- ---- turns

-- a turn: the bit of the variable that is fixed, and whether the universal side fixes it
pub record GameTurn : Type 0 where
  pub variable : ℕ
  pub universal : Bool

-- "Variables on no line belong to the existential side", by number: those among the k variables from bit i on
abbrev pub unlisted : List Bound → ℕ → ℕ → List GameTurn
unlisted bs i zero = []
unlisted bs i (suc k) = cond (on_line (suc i) bs) (unlisted bs (suc i) k)
    (record { variable = i; universal = false } ∷ unlisted bs (suc i) k)

-- the turns of the lines' variables, "in prefix order"
abbrev pub line_turns : List Bound → List GameTurn
line_turns [] = []
line_turns (b ∷ bs) = record { variable = b.value - 1; universal = b.universal } ∷ line_turns bs

-- variables on no line "come first"
unfoldable pub game_turns : ℕ → List Bound → List GameTurn
game_turns n bs = unlisted bs 0 n ++ line_turns bs

-- ---- the text

-- rows and turns, or a refusal
pub data GameText : Type 0 where
  game : List Row → List GameTurn → GameText
  no_game : Refusal → GameText

-- exactly m clauses that can all be read, else 5; then 22
abbrev pub game_on : ℕ → ℕ → Option (List Bound) → Reading → GameText
game_on n m None reading = no_game Text
game_on n m (Some bs) reading =
    cond (complete reading && eqb (length (clause_rows reading)) m)
    (cond (proper n bs) (game (clause_rows reading) (game_turns n bs)) (no_game LineVariables))
    (no_game Text)

-- what the lines after the header say
abbrev pub game_lines : ℕ → ℕ → List (List ℕ) → GameText
game_lines n m lines = game_on n m (prefix_of lines) (clauses n (tokens_on (behind_prefix lines)))

-- "21 directly follows the header's 1 and 2 and comes before 5"
abbrev pub game_behind : List ℕ → ℕ → Result (ℕ × ℕ) Refusal → GameText
game_behind text end (Err r) = no_game r
game_behind text end (Ok (n, m)) = cond (ltb most_game_variables n) (no_game GameVariables)
    (game_lines n m (lines_behind (lines_from text end)))

-- the game of a text without remarks; it has 1 row or more
abbrev pub plain_game : List ℕ → GameText
plain_game text = game_behind text (header_of 1 text).end (header_of 1 text).sizes

-- an overlong text is 5 before all else; any other has the game that it has without its remark lines
unfoldable pub game_text : List ℕ → GameText
game_text text = cond (ltb 65536 (length text)) (no_game Text) (plain_game (without_remarks text))
