-- Rows: a clause's literals as two words, bit i - 1 for variable i (document 01, "Tables").
use Rattle.std.specs.Prelude.{ℕ, Bool, true, false, List, [], ◌∷◌}
use Rattle.words.specs.declared.Row.{Row}
use Rattle.words.specs.Sets.{put}

-- a literal: whether it has a minus, and the bit of its variable
pub record Literal : Type 0 where
  pub minus : Bool
  pub bit : ℕ

-- a row with a literal more: its bit in the word of its sign, where a repeated literal's is already
abbrev pub with_literal : Bool → ℕ → Row → Row
with_literal false i r = record { positive = put r.positive i; negative = r.negative }
with_literal true i r = record { positive = r.positive; negative = put r.negative i }

-- the row of a clause
abbrev pub row_of : List Literal → Row
row_of [] = record { positive = 0; negative = 0 }
row_of (l ∷ ls) = with_literal l.minus l.bit (row_of ls)

-- rows as words: positive, then negative
abbrev pub words_of_rows : List Row → List ℕ
words_of_rows [] = []
words_of_rows (r ∷ rs) = r.positive ∷ (r.negative ∷ words_of_rows rs)
