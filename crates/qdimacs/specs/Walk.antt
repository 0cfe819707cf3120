-- The lines of a text as code walks over them, remarks passed by.
use Rattle.std.specs.Prelude.{ℕ, ◌≡◌, Bool, true, false, ◌&&◌, ◌||◌, cond, List, [], ◌∷◌, ltb, drop, Option, Some, None}
use Rattle.lexer.specs.Bytes.{is_line_feed}
use Rattle.lexer.specs.Remarks.{is_remark}
use Rattle.lexer.specs.Pieces.{Piece}
use Rattle.refusals.specs.declared.Refusal.TheVariants.{GameVariables}
use Rattle.qdimacs.specs.Lines.{Bound, no_piece, no_token, is_variable_line, variable_line}
use Rattle.qdimacs.specs.Text.{GameText, no_game, most_game_variables, game_lines}
use Rattle.qdimacs.specs.TurnsInWords.{bound_all}
use Rattle.qdimacs.specs.declared.Prefix.{Prefix}

-- the 0 is the line's last part, and a variable comes before it
abbrev pub last_part : Bool → List Piece → Bool
last_part told ps = told && no_piece ps

-- bytes cut at LFs: the first line, and of the later ones those that are not left out
pub record LineCut : Type 0 where
  pub line : List ℕ
  pub later : List (List ℕ)

-- a line in front of others, if it is not left out
abbrev pub unless : Bool → List ℕ → List (List ℕ) → List (List ℕ)
unless out l ls = cond out ls (l ∷ ls)

-- a byte in front: an LF ends an empty line
abbrev pub line_ahead : (List ℕ → Bool) → Bool → ℕ → LineCut → LineCut
line_ahead out true b c = record { line = []; later = unless (out c.line) c.line c.later }
line_ahead out false b c = record { line = b ∷ c.line; later = c.later }

unfoldable pub line_cut : (List ℕ → Bool) → List ℕ → LineCut
line_cut out [] = record { line = []; later = [] }
line_cut out (b ∷ bs) = line_ahead out (is_line_feed b) b (line_cut out bs)

-- a remark, or a line without a token
abbrev pub passed_by : List ℕ → Bool
passed_by line = is_remark line || no_token line

-- the lines after the one at a place
abbrev pub lines_past : List ℕ → ℕ → List (List ℕ)
lines_past text at = (line_cut passed_by (drop at text)).later

-- the variables read and the lines after the prefix, or none where a line is malformed
pub record Walked : Type 0 where
  pub prefix : Prefix
  pub rest : List (List ℕ)

abbrev pub walked_on : ℕ → Prefix → Option (List Bound) → (Prefix → Option Walked) → Option Walked
walked_on n p None f = None
walked_on n p (Some bs) f = f (bound_all n p bs)

unfoldable pub walked : ℕ → Prefix → List (List ℕ) → Option Walked
walked n p [] = Some (record { prefix = p; rest = [] })
walked n p (l ∷ ls) =
    cond (is_variable_line l) (walked_on n p (variable_line l) (λ q. walked n q ls)) (Some (record { prefix = p; rest = l ∷ ls }))

-- what the prefix is answered with: its variables and the end of the line after which the clauses begin, or malformed
abbrev pub PrefixEnds : List ℕ → Option Walked → Option (Prefix × ℕ) → Type 0
PrefixEnds text w (Some (p, at)) = (w ≡ Some (record { prefix = p; rest = lines_past text at }))
    × ((line_cut passed_by (drop at text)).line ≡ [])
PrefixEnds text w None = w ≡ None

-- the game after a header of n and m that ends at a place of the text as it is
abbrev pub standing_game : ℕ → ℕ → List ℕ → ℕ → GameText
standing_game n m text end = cond (ltb most_game_variables n) (no_game GameVariables) (game_lines n m (lines_past text end))
