-- A text cut into pieces, each with its place: lines, and the tokens between separators.
use Rattle.std.specs.Prelude.{ℕ, suc, ◌+◌, Bool, true, false, List, [], ◌∷◌, length, drop}
use Rattle.lexer.specs.Bytes.{is_separator, is_line_feed}

-- a piece of a text: where it starts, and its bytes
pub record Piece : Type 0 where
  pub at : ℕ
  pub bytes : List ℕ

-- the place after a piece
abbrev pub behind : Piece → ℕ
behind p = p.at + length p.bytes

-- byte b is at a place, in front of pieces: it ends an empty piece, or joins the first
abbrev pub joined_byte : Bool → ℕ → ℕ → List Piece → List Piece
joined_byte true at b ps = record { at = at; bytes = [] } ∷ ps
joined_byte false at b [] = []
joined_byte false at b (p ∷ ps) = record { at = at; bytes = b ∷ p.bytes } ∷ ps

-- bytes that start at a place, cut at each byte that passes: always at least one piece
unfoldable pub cut : (ℕ → Bool) → ℕ → List ℕ → List Piece
cut p at [] = record { at = at; bytes = [] } ∷ []
cut p at (b ∷ bs) = joined_byte (p b) at b (cut p (suc at) bs)

-- the pieces that are not empty
unfoldable pub not_empty : List Piece → List Piece
not_empty [] = []
not_empty (p ∷ ps) = elim p.bytes [ [] ↦ not_empty ps | b ∷ bs ↦ p ∷ not_empty ps ]

-- the lines of a text from a place on
abbrev pub lines_from : List ℕ → ℕ → List Piece
lines_from text at = cut is_line_feed at (drop at text)

-- the longest runs of bytes that do not pass, from a place on
unfoldable pub parts_from : (ℕ → Bool) → List ℕ → ℕ → List Piece
parts_from p text at = not_empty (cut p at (drop at text))

-- the tokens of a text from a place on: what separators set apart
abbrev pub tokens_from : List ℕ → ℕ → List Piece
tokens_from text at = parts_from is_separator text at
