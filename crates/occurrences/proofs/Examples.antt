-- Words of the index of small tables, computed: where each row is in its literals' sets, and the words of all rows in one array.
use mathlib.Core.Path.{◌≡◌, refl}
use mathlib.Core.Bool.{true}
use mathlib.Core.List.{List, [], ◌∷◌, ◌++◌}
use Prim.Native.Nat.{ℕ, ◌+◌, ◌*◌}
use lib.ListN.{take, set, replicate}
use Rattle.words.specs.declared.Row.{Row}
use Rattle.words.specs.Sets.{bit, word_of}
use Rattle.dimensions.specs.Sizes.{dimensions}
use Rattle.tables.specs.Tables.{all_tables}
use Rattle.tables.specs.Rows.{rows_of}
use Rattle.occurrences.specs.Index.{at, row_set, holds_literal, index_of}
use Rattle.occurrences.specs.RowWords.{gathered, literals_of, replaced_sets}

-- positive, then negative word
abbrev row : ℕ → ℕ → Row
row positive negative = record { positive = positive; negative = negative }

-- (1), (-1 2) and, public, the padding row (2 -2)
abbrev three : List Row
three = rows_of (dimensions 2 1 1 1) (all_tables (1 ∷ 0 ∷ []) (2 ∷ 1 ∷ []) (2 ∷ 2 ∷ []))

-- all 384 words: 1 occurs in row 0, 2 in rows 1 and 2, -1 in row 1, -2 in row 2. Each literal has six words, the negative ones theirs from 192 on
whole : index_of three ≡ set (set (set (set (replicate 384 0) 0 1) 6 6) 192 2) 198 4
unfolding index_of at bit word_of
whole = refl

-- the seventy-first row is bit 6 of its sets' second words
row_70 : row_set (holds_literal true 31) (replicate 70 (row 0 0) ++ (row 2147483648 0 ∷ [])) ≡ 0 ∷ 64 ∷ 0 ∷ 0 ∷ 0 ∷ 0 ∷ []
unfolding at bit word_of
row_70 = refl

-- words past a table's rows are not taken
in_order : take 8 (gathered (dimensions 2 1 1 1) (all_tables (1 ∷ 0 ∷ 9 ∷ []) (2 ∷ 1 ∷ []) (2 ∷ 2 ∷ 9 ∷ []))) ≡ 1 ∷ 0 ∷ 2 ∷ 1 ∷ 2 ∷ 2 ∷ 0 ∷ 0 ∷ []
unfolding gathered
in_order = refl

-- (1 -2) holds literals 0 and 33
two-literals : literals_of (row 1 2) ≡ 1 + 2 * 4294967296
unfolding literals_of bit word_of
two-literals = refl

-- the padding row (2 -2) replaced by (-1 -2): out of 2's set, into -1's, left in -2's
replaced : replaced_sets (index_of three) 2 (row 2 2) (row 0 3) ≡ set (set (set (set (replicate 384 0) 0 1) 6 2) 192 6) 198 4
unfolding replaced_sets index_of at bit word_of
replaced = refl

-- no set has a row 384
past_all : replaced_sets (index_of three) 384 (row 2 2) (row 0 3) ≡ index_of three
unfolding replaced_sets index_of at bit word_of
past_all = refl
