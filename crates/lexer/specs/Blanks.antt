-- Remarks as code passes them by: each of their bytes a space, so that every other byte keeps its place.
use Rattle.std.specs.Prelude.{ℕ, ◌+◌, ◌-◌, Bool, false, not, ◌&&◌, cond, List, [], ◌∷◌, eqb, ltb, drop, get_or}
use Rattle.lexer.specs.Bytes.{is_separator, is_line_feed, run}
use Rattle.lexer.specs.Pieces.{Piece, cut, not_empty}

-- where a byte is: at its line's start, further on in a line, or in a remark
pub data LinePlace : Type 0 where
  start further remark : LinePlace

-- whether the byte belongs to a remark, its LF not counted
abbrev pub in_remark : LinePlace → ℕ → Bool
in_remark start b = eqb b 99
in_remark further b = false
in_remark remark b = not (is_line_feed b)

-- where the next byte is
abbrev pub place_behind : LinePlace → ℕ → LinePlace
place_behind s b = cond (is_line_feed b) start (cond (in_remark s b) remark further)

-- each byte of a remark as a space
unfoldable pub blanked : LinePlace → List ℕ → List ℕ
blanked s [] = []
blanked s (b ∷ bs) = cond (in_remark s b) 32 b ∷ blanked (place_behind s b) bs

-- the tokens from a place on that is no line's start, remarks passed by
unfoldable pub tokens_past : List ℕ → ℕ → List Piece
tokens_past text at = not_empty (cut is_separator at (blanked further (drop at text)))

-- the place of the first of them; the text's end if there is none
unfoldable pub token_start : List ℕ → ℕ → ℕ
token_start text at = at + run is_separator (blanked further (drop at text))

-- a remark starts at a place: a `c` right after an LF, which is not before `at`
abbrev pub remark_at : List ℕ → ℕ → ℕ → Bool
remark_at text at place = eqb (get_or text place 0) 99 && (ltb at place && is_line_feed (get_or text (place - 1) 0))
