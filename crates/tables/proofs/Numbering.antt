-- How many rows a table's words give, and which row has a number: by induction on the rows.
use mathlib.Core.Path.{◌≡◌, refl, sym, ap, ap₂, ◌∙◌}
use mathlib.Core.List.{List, ◌++◌}
use Prim.Native.Nat.{ℕ, zero, suc, ◌+◌, ◌<◌}
use native.Mathlib.Omega.{arith}
use lib.ListN.{length, get_or, length-append, get_or-append}
use lib.Seq.{get_or-append-add}
use Rattle.words.specs.declared.Row.{Row}
use Rattle.dimensions.specs.declared.Dimensions.{Dimensions}
use Rattle.dimensions.specs.Sizes.{row_count}
use Rattle.tables.specs.Tables.{Tables}
use Rattle.tables.specs.Rows.{row_at, rows_from, rows_of_public, rows_of, empty}

-- as many rows as were asked for
pub table-length : (words : List ℕ) (i k : ℕ) → length (rows_from words i k) ≡ k
table-length words i zero = refl
table-length words i (suc k) = ap suc (table-length words (suc i) k)

-- those of all tables
pub tables-length : (d : Dimensions) (tables : Tables) → length (rows_of d tables) ≡ row_count d
tables-length d tables =
    length-append (rows_from tables.left 0 d.left) _
    ∙ ap₂ ◌+◌ (table-length tables.left 0 d.left)
    (length-append (rows_from tables.right 0 d.right) _ ∙ ap₂ ◌+◌ (table-length tables.right 0 d.right)
    (table-length tables.public 0 d.public))
    ∙ omega arith

-- row i of those from j on
pub row_from : (words : List ℕ) (k j i : ℕ) → i < k → get_or (rows_from words j k) i empty ≡ row_at words (j + i)
row_from words zero j i b = absurd (omega arith)
row_from words (suc k) j zero b = let e : j ≡ j + 0 = omega arith in ap (row_at words) e
row_from words (suc k) j (suc i) b = let e : suc j + i ≡ j + suc i = omega arith in row_from words k (suc j) i (omega arith) ∙ ap (row_at words) e

-- ---- the rows of all tables, by number from 0

module _ (d : Dimensions) (tables : Tables) (i : ℕ) where
  abbrev rows_of_left : List Row
  rows_of_left = rows_from tables.left 0 d.left

  abbrev rows_of_right : List Row
  rows_of_right = rows_from tables.right 0 d.right

  plain : 0 + i ≡ i
  plain = omega arith

  -- the left station's first
  pub left-row : i < d.left → get_or (rows_of d tables) i empty ≡ row_at tables.left i
  left-row b =
      get_or-append rows_of_left (rows_of_right ++ rows_of_public d tables) empty i (omega (arith, table-length tables.left 0 d.left))
      ∙ row_from tables.left d.left 0 i b ∙ ap (row_at tables.left) plain

  -- the right station's after them
  pub right_row : i < d.right → get_or (rows_of d tables) (d.left + i) empty ≡ row_at tables.right i
  right_row b =
      ap (λ (k : ℕ). get_or (rows_of d tables) (k + i) empty) (sym (table-length tables.left 0 d.left))
      ∙ get_or-append-add rows_of_left (rows_of_right ++ rows_of_public d tables) i empty
      ∙ get_or-append rows_of_right (rows_of_public d tables) empty i (omega (arith, table-length tables.right 0 d.right))
      ∙ row_from tables.right d.right 0 i b ∙ ap (row_at tables.right) plain
