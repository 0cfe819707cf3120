-- Places in a text. Functions that read texts go by them.
use Rattle.std.specs.Prelude.{ℕ, ◌+◌, ◌-◌, Bool, not, cond, List, [], ◌∷◌, ltb, length, take, drop, Option, Some, None}
use Rattle.lexer.specs.Bytes.{run}
use Rattle.lexer.specs.Pieces as P

-- the first place from `at` on whose byte does not pass; the text's end if there is none
unfoldable pub run_end : (ℕ → Bool) → List ℕ → ℕ → ℕ
run_end p text at = at + run p (drop at text)

-- the bytes from one place up to another
abbrev pub part : ℕ → ℕ → List ℕ → List ℕ
part from to text = take (to - from) (drop from text)

-- where a piece starts and ends: it starts at a place and ends before the next byte that passes; none at the text's end
abbrev pub piece_at : (ℕ → Bool) → List ℕ → ℕ → Option (ℕ × ℕ)
piece_at p text start = cond (ltb start (length text)) (Some (start, run_end (λ b. not (p b)) text start)) None

-- the first piece's place and the place after it
abbrev pub first_of : List P.Piece → Option (ℕ × ℕ)
first_of [] = None
first_of (p ∷ ps) = Some (p.at, (P.behind p))
