-- The row that is replaced, as code reads it before.
use Rattle.std.specs.Prelude.{ℕ, ◌+◌, ◌-◌, ◌&&◌, cond, List, ltb, leb}
use Rattle.words.specs.declared.Row.{Row}
use Rattle.dimensions.specs.declared.Dimensions.{Dimensions}
use Rattle.tables.specs.Rows.{row_at, empty}

-- the row of a number from 1 in the words of the left table or of the right one; an empty one for any other number
unfoldable pub old_row : Dimensions → List ℕ → List ℕ → ℕ → Row
old_row d left right number =
    cond (ltb 0 number && leb number d.left) (row_at left (number - 1))
    (cond (ltb d.left number && leb number (d.left + d.right)) (row_at right (number - 1 - d.left)) empty)
