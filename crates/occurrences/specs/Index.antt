-- Rows by literal: document 02, "Which rows does a variable touch".
-- Ask: Is an index these sets and no other?
use Rattle.std.specs.Prelude.{ℕ, zero, suc, ◌+◌, ◌*◌, Bool, true, false, List, [], ◌∷◌, ◌++◌}
use Rattle.words.specs.declared.Row.{Row}
use Rattle.words.specs.Sets.{bit, word_of}

-- the row of number i, from 0, passes; none past the last does
unfoldable pub at : (Row → Bool) → List Row → ℕ → Bool
at p [] i = false
at p (r ∷ rs) zero = p r
at p (r ∷ rs) (suc i) = at p rs i

-- rows 64 w to 64 w + 63 of those that pass, the first in the lowest bit
abbrev pub word_at : (Row → Bool) → List Row → ℕ → ℕ
word_at p rows w = word_of (λ j. at p rows (64 * w + j)) 64

-- the rows that pass, of at most 384
abbrev pub row_set : (Row → Bool) → List Row → List ℕ
row_set p rows = word_at p rows 0 ∷ (word_at p rows 1
    ∷ (word_at p rows 2 ∷ (word_at p rows 3 ∷ (word_at p rows 4 ∷ (word_at p rows 5 ∷ [])))))

-- the row holds the variable with this sign
abbrev pub holds_literal : Bool → ℕ → Row → Bool
holds_literal true v r = bit r.positive v
holds_literal false v r = bit r.negative v

-- the sets of k variables from v on
abbrev pub sets_from : Bool → List Row → ℕ → ℕ → List ℕ
sets_from sign rows v zero = []
sets_from sign rows v (suc k) = row_set (holds_literal sign v) rows ++ sets_from sign rows (suc v) k

-- for each literal the set of rows that hold it: the positive ones from variable 1, then the negative ones
unfoldable pub index_of : List Row → List ℕ
unfolding at
index_of rows = sets_from true rows 0 32 ++ sets_from false rows 0 32
