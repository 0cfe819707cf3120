-- When an assignment makes rows true, and which variables occur: what demand 2 speaks of.
-- Ask: Is truth over all assignments, without a word of runs?
use Rattle.std.specs.Prelude.{ℕ, Bool, not, ◌&&◌, ◌||◌, List}
use Rattle.words.specs.declared.Row.{Row}
use Rattle.words.specs.Sets.{bit, any, count}
use Rattle.tables.specs.Rows.{padding, holds}
use Rattle.scan.specs.Rules.{all_rows, any_row}

-- some literal of the row is true; a row's word has 32 bits
unfoldable pub row_true : (ℕ → Bool) → Row → Bool
row_true a r = any (λ i. (bit r.positive i && a i) || (bit r.negative i && not (a i))) 32

-- every row is true
unfoldable pub all_true : (ℕ → Bool) → List Row → Bool
unfolding row_true all_rows
all_true a rows = all_rows (λ r. row_true a r) rows

-- the variable occurs in some row that is no padding
unfoldable pub occurs : ℕ → List Row → ℕ → Bool
unfolding padding any_row
occurs n rows i = any_row (λ r. not (padding n r) && holds r i) rows

-- k, the number of such variables
unfoldable pub occurring : ℕ → List Row → ℕ
unfolding occurs
occurring n rows = count (λ i. occurs n rows i) n
