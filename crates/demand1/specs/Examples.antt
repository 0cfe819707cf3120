-- Small arguments from which each function's examples are made: accepted tables and refused ones, runs and arrays.
use Rattle.std.specs.Prelude.{ℕ, List, [], ◌∷◌, replicate}
use Rattle.dimensions.specs.declared.Dimensions.{Dimensions}
use Rattle.dimensions.specs.Sizes.{dimensions}
use Rattle.tables.specs.Tables.{Tables, all_tables}
use Rattle.state.specs.declared.Standing.TheVariants.{Satisfied}
use Rattle.state.specs.State.{fresh, run_of}
use Rattle.stored.specs.Words.{run_words}

-- (1 2) | (-1) | (1 -1)
abbrev pub two : Dimensions
two = dimensions 2 1 1 1

abbrev pub rows : Tables
rows = all_tables (3 ∷ 0 ∷ []) (0 ∷ 1 ∷ []) (1 ∷ 1 ∷ [])

-- n of 33; a station without rows
abbrev pub bad_sizes : List Dimensions
bad_sizes = dimensions 33 1 1 1 ∷ dimensions 2 1 0 1 ∷ []

-- these, a left table of one word, and a bit above variable 2: 1, 2, 4, 3
abbrev pub bad_tables : List (Dimensions × Tables)
bad_tables =
    (dimensions 33 1 1 1, rows) ∷ (dimensions 2 1 0 1, rows)
    ∷ (two, all_tables (3 ∷ []) (0 ∷ 1 ∷ []) (1 ∷ 1 ∷ [])) ∷ (two, all_tables (3 ∷ 4 ∷ []) (0 ∷ 1 ∷ []) (1 ∷ 1 ∷ [])) ∷ []

-- the fresh run of n variables, in words
unfoldable pub fresh_words : ℕ → List ℕ
unfolding run_words run_of
fresh_words n = run_words (run_of n fresh)

-- a satisfied one with variable 2 true
unfoldable pub satisfied_words : List ℕ
unfolding run_words run_of
satisfied_words = run_words (run_of 2 (record { standing = Satisfied; t = 2; f = 1; levels = [] }))

-- an array of k numbers
abbrev pub array : ℕ → List ℕ
array k = replicate k 9
