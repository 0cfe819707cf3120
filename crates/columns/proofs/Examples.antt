-- A table of 33 rows by columns, computed, and refusals in their order.
use mathlib.Core.Path.{◌≡◌, refl}
use mathlib.Core.Bool.{true}
use mathlib.Core.List.{List, [], ◌∷◌, ◌++◌}
use Prim.Native.Nat.{ℕ}
use lib.ListN.{replicate}
use Rattle.refusals.specs.Checks.{outcome}
use Rattle.refusals.specs.Numbers.{code_of}
use Rattle.words.specs.Sets.{bit, any, word_of}
use Rattle.words.specs.Sameness.{same}
use Rattle.tables.specs.Acceptance.{all_below}
use Rattle.squares.specs.Squares.{column}
use Rattle.columns.specs.Planes.{squares_from, planes_of, row_word, table_from}
use Rattle.columns.specs.Columns.{column_checks, stray, row_checks}

-- (1 -2) and (2) first, then 30 rows without a literal, and (-1) as row 33
unfoldable pub table : List ℕ
table = 1 ∷ 2 ∷ 2 ∷ 0 ∷ replicate 60 0 ++ 0 ∷ 1 ∷ []

-- two squares: in the first variable 1 is positive in row 1, variable 2 positive in row 2 and negative in row 1; in the second variable 1
-- is negative in its first row
planes : List ℕ
planes = 1 ∷ 2 ∷ replicate 30 0 ++ 0 ∷ 1 ∷ replicate 30 0 ++ replicate 32 0 ++ 1 ∷ replicate 31 0

by-columns : same (planes_of 33 table) planes ≡ true
unfolding table planes planes_of squares_from column bit word_of same
by-columns = refl

and-back : same (table_from 33 planes) table ≡ true
unfolding table planes table_from row_word column bit word_of same
and-back = refl

-- a table without rows has no square
no_rows : planes_of 0 [] ≡ []
unfolding planes_of squares_from
no_rows = refl

-- ---- refusals

-- the number that rows, and that planes, are answered with
to : ℕ → ℕ → List ℕ → ℕ → ℕ
unfolding all_below
to n rows words space = code_of (outcome (column_checks n rows words space))

back : ℕ → ℕ → List ℕ → ℕ → ℕ
unfolding stray any
back n rows words space = code_of (outcome (row_checks n rows words space))

-- no rows need no words at all
none-taken : to 1 0 [] 0 ≡ 0
unfolding to
none-taken = refl

none-back : back 1 0 [] 0 ≡ 0
unfolding back
none-back = refl

-- 1 before 2, 2 before 4, and 4 for either buffer before 3 and 24
variables_first : (to 33 129 [] 0 ≡ 1) × (back 0 129 [] 0 ≡ 1)
unfolding to back
variables_first = (refl, refl)

rows_next : (to 32 129 [] 0 ≡ 2) × (back 32 129 [] 0 ≡ 2)
unfolding to back
rows_next = (refl, refl)

buffers_next : (to 1 1 (2 ∷ []) 64 ≡ 4) × (to 1 1 (2 ∷ 0 ∷ []) 63 ≡ 4) × (back 1 1 (replicate 64 2) 1 ≡ 4) × (back 1 1 (replicate 63 2) 2 ≡ 4)
unfolding to back
buffers_next = (refl, refl, refl, refl)

-- variable 2 of a table of one variable; in the planes it is row 1 of variable 2, or row 2 of variable 1
bits-last : (to 1 1 (2 ∷ 0 ∷ []) 64 ≡ 3) × (back 1 1 (0 ∷ 1 ∷ replicate 62 0) 2 ≡ 24) × (back 1 1 (2 ∷ replicate 63 0) 2 ≡ 24)
unfolding to back
bits-last = (refl, refl, refl)

-- words past those named are not looked at
past_named : (to 1 1 (1 ∷ 0 ∷ 2 ∷ []) 64 ≡ 0) × (back 1 1 (1 ∷ replicate 63 0 ++ 2 ∷ []) 2 ≡ 0)
unfolding to back
past_named = (refl, refl)
