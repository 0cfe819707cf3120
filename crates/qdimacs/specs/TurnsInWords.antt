-- Turns and the variables of a prefix as code holds them, in words. No entry's contract rests on this file.
use Rattle.std.specs.Prelude.{Option, Some, None, Result, Ok, Err}
use Rattle.refusals.specs.declared.Refusal.{Refusal}
use Rattle.refusals.specs.Numbers.{Outcome, number_of}
use Rattle.std.specs.Prelude.{
  ℕ,
  zero,
  suc,
  ◌+◌,
  ◌-◌,
  ◌*◌,
  ◌/◌,
  ◌%◌,
  ◌^◌,
  Bool,
  true,
  false,
  not,
  ◌||◌,
  cond,
  List,
  [],
  ◌∷◌,
  ◌++◌,
  eqb,
  ltb,
  leb,
  length,
  replicate,
}
use Rattle.words.specs.Booleans.{digit}
use Rattle.words.specs.Sets.{bit, put}
use Rattle.lexer.specs.Remarks.{is_remark}
use Rattle.header.specs.Header.{beyond}
use Rattle.clauses.specs.Rows.{words_of_rows}
use Rattle.qdimacs.specs.Lines.{Bound, no_token, is_variable_line, variable_line}
use Rattle.qdimacs.specs.Text.{GameTurn, GameText, game, no_game}
use Rattle.qdimacs.specs.declared.Prefix.{Prefix}
use Rattle.qdimacs.specs.declared.PrefixLine.{PrefixLine}
use Rattle.qdimacs.specs.declared.PrefixLine.TheVariants.{Passed, Clauses, Malformed}
use Rattle.qdimacs.specs.declared.Quantified.{Quantified}

-- ---- turns in a word: digits of base 32, the first turn the lowest

-- twice the variable's bit, and 1 more for the universal side
abbrev pub turn_digit : Bool → ℕ → ℕ
turn_digit u v = digit u + 2 * v

unfoldable pub turns_word : List GameTurn → ℕ
turns_word [] = 0
turns_word (k ∷ ks) = turn_digit k.universal k.variable + 32 * turns_word ks

-- the first turn of a word
abbrev pub turn_in : ℕ → GameTurn
turn_in w = record { variable = w / 2 % 16; universal = eqb (w % 2) 1 }

-- the first k turns of a word
unfoldable pub turns_in : ℕ → ℕ → List GameTurn
turns_in w zero = []
turns_in w (suc k) = turn_in w ∷ turns_in (w / 32) k

-- ---- the variables of a prefix

-- before the first
abbrev pub no_variable : Prefix
no_variable = record { proper = true; turns = 0; unit = 1; listed = 0 }

-- twice or outside 1 to n
abbrev pub improper : Prefix
improper = record { proper = false; turns = 0; unit = 1; listed = 0 }

-- no place for one more turn
abbrev pub is_full : Prefix → Bool
is_full p = ltb (2 ^ 55) p.unit || leb p.unit p.turns

-- one variable more
abbrev pub bound_by : ℕ → Prefix → Bool → Bool → ℕ → Prefix
bound_by n p u s v =
    cond (not p.proper || beyond 1 n s v) improper
    (cond (bit p.listed (v - 1) || is_full p) improper
    (record {
      proper = true;
      turns = p.turns + turn_digit u (v - 1) * p.unit;
      unit = 32 * p.unit;
      listed = cond (ltb (v - 1) 32) (put p.listed (v - 1)) p.listed;
    }))

-- all variables of a list more
abbrev pub bound_all : ℕ → Prefix → List Bound → Prefix
bound_all n p [] = p
bound_all n p (b ∷ bs) = bound_all n (bound_by n p b.universal b.minus b.value) bs

-- ---- a line

-- what a line of variables makes of those before it
abbrev pub line_held : ℕ → Prefix → Option (List Bound) → PrefixLine
line_held n p None = Malformed
line_held n p (Some bs) = Passed (bound_all n p bs)

-- what any line makes of them: remarks and lines without a token are passed by
abbrev pub line_read : ℕ → Prefix → List ℕ → PrefixLine
line_read n p line =
    cond (is_remark line || no_token line) (Passed p)
    (cond (is_variable_line line) (line_held n p (variable_line line)) Clauses)

-- ---- the whole

-- variables that are not listed, from the k-th down, in front of some turns
unfoldable pub arranged : ℕ → ℕ → ℕ → ℕ
arranged listed turns zero = turns
arranged listed turns (suc k) = arranged listed (cond (bit listed k) turns ((turns * 32) % 2 ^ 64 + 2 * k)) k

-- a game as it is held: n, the turns, the number of rows and their words; or the refusal
abbrev pub quantified : GameText → Result Quantified Refusal
quantified (no_game r) = Err r
quantified (game rows turns) =
    Ok (record {
      n = length turns;
      turns = turns_word turns;
      rows = length rows;
      words = words_of_rows rows ++ replicate (256 - 2 * length rows) 0;
    })

-- whether a text has a game
abbrev pub game_outcome : GameText → Outcome
game_outcome (no_game r) = Err r
game_outcome (game rows turns) = Ok tt

-- what reading a game returns: 0, or 1, 2, 21, 5 or 22
abbrev pub quantified_code : Result Quantified Refusal → ℕ
quantified_code (Ok q) = 0
quantified_code (Err r) = number_of r
