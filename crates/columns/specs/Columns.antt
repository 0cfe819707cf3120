-- A table by columns and back: document 02, "Columns before rows", refusals 1, 2, 4, and then 3 for rows and 24 for planes.
-- Ask: Is 24 judged in the squares alone, beyond the count and beyond n, and after 4?
use Rattle.std.specs.Prelude.{ℕ, ◌-◌, ◌*◌, ◌/◌, ◌%◌, ◌^◌, Bool, not, ◌||◌, cond, List, [], ◌∷◌, ◌++◌, ltb, length, get_or}
use Rattle.std.proofs.lemmas.List.Edits.{sets}
use Rattle.refusals.specs.Checks.{Check, check, outcome, given}
use Rattle.refusals.specs.declared.Refusal.TheVariants.{Variables, RowCount, RowBit, RowBuffer, PlaneBits}
use Rattle.words.specs.Sets.{any}
use Rattle.dimensions.specs.Sizes.{most_variables, most_rows, outside}
use Rattle.tables.specs.Acceptance.{high}
use Rattle.columns.specs.Planes.{square_count, planes_of, table_from}

-- 1, 2 ("A table of 0 to 128 rows is taken"), 4: too few words for the rows or for their squares
abbrev pub buffer_checks : ℕ → ℕ → ℕ → ℕ → List Check
buffer_checks n rows words space =
    check (outside most_variables n) Variables
    ∷ check (ltb most_rows rows) RowCount
    ∷ check (ltb words (2 * rows) || ltb space (64 * square_count rows)) RowBuffer
    ∷ []

-- rows to planes: 1, 2, 4, 3
abbrev pub column_checks : ℕ → ℕ → List ℕ → ℕ → List Check
column_checks n rows table space = buffer_checks n rows (length table) space ++ check (high n rows table) RowBit ∷ []

-- the lent planes afterwards: those of the table, then what was there; refused, as they were
unfoldable pub columns_after : ℕ → ℕ → List ℕ → List ℕ → List ℕ
columns_after n rows table planes =
    given (outcome (column_checks n rows table (length planes))) (sets planes 0 (planes_of rows table)) (λ r. planes)

-- ---- back

-- how many bits word q of the planes may have: one for each row of its square, none for a variable beyond n
abbrev pub room : ℕ → ℕ → ℕ → ℕ
room n rows q = let left = rows - 32 * (q / 64) in cond (ltb (q % 32) n) (cond (ltb left 32) left 32) 0

-- "a nonzero bit in the planes beyond the count or beyond n": in word q, and in some word of the squares
abbrev pub stray_word : ℕ → ℕ → List ℕ → ℕ → Bool
stray_word n rows planes q = not (ltb (get_or planes q 0) (2 ^ room n rows q))

unfoldable pub stray : ℕ → ℕ → List ℕ → Bool
unfolding any
stray n rows planes = any (stray_word n rows planes) (64 * square_count rows)

-- planes to rows: 1, 2, 4, 24
abbrev pub row_checks : ℕ → ℕ → List ℕ → ℕ → List Check
row_checks n rows planes words = buffer_checks n rows words (length planes) ++ check (stray n rows planes) PlaneBits ∷ []

-- the lent table afterwards: the rows of the planes, then what was there; refused, as it was
unfoldable pub rows_after : ℕ → ℕ → List ℕ → List ℕ → List ℕ
unfolding stray table_from
rows_after n rows planes table = given (outcome (row_checks n rows planes (length table))) (sets table 0 (table_from rows planes))
    (λ r. table)
