-- What is kept beside a run: document 02, "Which rows does a variable touch".
-- Ask: Is the number that of the unsatisfied rows, whatever the run's standing?
use Rattle.std.specs.Prelude.{ℕ, ◌+◌, Bool, true, false, not, ◌&&◌, List, [], ◌∷◌}
use Rattle.words.specs.declared.Row.{Row}
use Rattle.words.specs.Booleans.{digit}
use Rattle.words.specs.Sets.{put, word_of}
use Rattle.tables.specs.Rows.{satisfied}
use Rattle.scan.specs.Rules.{any_row, unsatisfied_with, forces}
use Rattle.occurrences.specs.Index.{at, row_set, holds_literal}
use Rattle.tally.specs.declared.Tally.{Tally}

-- how many rows pass
unfoldable pub count_rows : (Row → Bool) → List Row → ℕ
count_rows p [] = 0
count_rows p (r ∷ rs) = digit (p r) + count_rows p rs

-- a row that is not satisfied
abbrev pub unmet : ℕ → ℕ → ℕ → Row → Bool
unmet n t f r = not (satisfied n r t f)

-- the number of rows unsatisfied under T and F
unfoldable pub unsatisfied_rows : ℕ → List Row → ℕ → ℕ → ℕ
unfolding count_rows
unsatisfied_rows n rows t f = count_rows (unmet n t f) rows

-- an unsatisfied row whose one free literal has this variable and this sign
abbrev pub forcing : Bool → ℕ → ℕ → ℕ → ℕ → Row → Bool
forcing sign n t f v r = forces n t f v r && holds_literal sign v r

-- the variables of the forced literals of this sign
abbrev pub forced_word : Bool → List Row → ℕ → ℕ → ℕ
forced_word sign rows t f = word_of (λ v. any_row (forcing sign 32 t f v) rows) 32

-- exactly what T and F make of the rows, of which there are at most 384
unfoldable pub tally_of : List Row → ℕ → ℕ → Tally
unfolding at unsatisfied_rows unsatisfied_with any_row
tally_of rows t f = record {
  number = unsatisfied_rows 32 rows t f;
  conflict = any_row (unsatisfied_with 0 32 t f) rows;
  unsatisfied = row_set (unmet 32 t f) rows;
  positive = forced_word true rows t f;
  negative = forced_word false rows t f;
}

-- T and F with a variable of this sign
abbrev pub set_t : Bool → ℕ → ℕ → ℕ
set_t true t v = put t v
set_t false t v = t

abbrev pub set_f : Bool → ℕ → ℕ → ℕ
set_f true f v = f
set_f false f v = put f v
