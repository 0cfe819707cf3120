-- Late conditions on small tables, computed: whose row may be replaced, which refusal comes first, and which words change.
use mathlib.Core.Path.{◌≡◌, refl}
use mathlib.Core.List.{[], ◌∷◌}
use Prim.Native.Nat.{ℕ}
use Rattle.refusals.specs.Checks.{outcome}
use Rattle.refusals.specs.Numbers.{code_of}
use Rattle.words.specs.Sets.{bit, any, all}
use Rattle.dimensions.specs.declared.Dimensions.{Dimensions}
use Rattle.dimensions.specs.Sizes.{dimensions}
use Rattle.tables.specs.Tables.{Tables, all_tables}
use Rattle.tables.specs.Rows.{padding}
use Rattle.tables.specs.Acceptance.{all_below}
use Rattle.state.specs.declared.Run.{Run}
use Rattle.state.specs.declared.Standing.{Standing}
use Rattle.state.specs.declared.Standing.TheVariants.{Open, Satisfied, Refuted}
use Rattle.state.specs.State.{run_of}
use Rattle.state.specs.WellFormed.{disjoint, well_formed}
use Rattle.late.specs.declared.Condition.{Condition}
use Rattle.late.specs.Replacement.{late_checks, tables_after}

-- rows 1 and 2: (1 2), (1 -1) | rows 3 and 4: (2 -2), (-1) | row 5, public: (1 -1); a word after each station's rows
abbrev d : Dimensions
d = dimensions 2 2 2 1

abbrev tables : Tables
tables = all_tables (3 ∷ 0 ∷ 1 ∷ 1 ∷ 9 ∷ []) (2 ∷ 2 ∷ 0 ∷ 1 ∷ 9 ∷ []) (1 ∷ 1 ∷ [])

-- a run of n variables with nothing set
abbrev run : ℕ → Standing → Run
run n standing = run_of n (record { standing = standing; t = 0; f = 0; levels = [] })

-- the station, the row's number, the new row's words
abbrev late : ℕ → ℕ → ℕ → ℕ → Condition
late station number positive negative = record { station = station; replaced = number; row = record { positive = positive; negative = negative } }

code : Tables → Run → Condition → ℕ
unfolding all_below run_of well_formed disjoint padding bit any all
code words r c = code_of (outcome (late_checks d words r c))

after : Tables → Run → Condition → Tables
unfolding tables_after all_below run_of well_formed disjoint padding bit any all
after words r c = tables_after d words r c

-- ---- a padding row of the station's own

left-own : code tables (run 2 Open) (late 0 2 2 0) ≡ 0
unfolding code
left-own = refl

right_own : code tables (run 2 Open) (late 1 3 1 0) ≡ 0
unfolding code
right_own = refl

-- ---- 15

-- a padding row, but the other station's
right_row-by-left : code tables (run 2 Open) (late 0 3 1 0) ≡ 15
unfolding code
right_row-by-left = refl

left-row-by_right : code tables (run 2 Open) (late 1 2 1 0) ≡ 15
unfolding code
left-row-by_right = refl

-- a padding row, but a public one
public_row-by-left : code tables (run 2 Open) (late 0 5 1 0) ≡ 15
unfolding code
public_row-by-left = refl

public_row-by_right : code tables (run 2 Open) (late 1 5 1 0) ≡ 15
unfolding code
public_row-by_right = refl

-- rows are numbered from 1, though row 1 be padding
row_zero : code (all_tables (1 ∷ 1 ∷ 1 ∷ 1 ∷ []) (1 ∷ 1 ∷ 1 ∷ 1 ∷ []) (1 ∷ 1 ∷ [])) (run 2 Open) (late 0 0 1 0) ≡ 15
unfolding code
row_zero = refl

past_the_end : code tables (run 2 Open) (late 1 6 1 0) ≡ 15
unfolding code
past_the_end = refl

-- rows that are no padding
left_no_padding : code tables (run 2 Open) (late 0 1 1 0) ≡ 15
unfolding code
left_no_padding = refl

right_no_padding : code tables (run 2 Open) (late 1 4 1 0) ≡ 15
unfolding code
right_no_padding = refl

-- there is no third station
no_station : code tables (run 2 Open) (late 2 2 1 0) ≡ 15
unfolding code
no_station = refl

-- ---- 16

closed-satisfied : code tables (run 2 Satisfied) (late 0 2 2 0) ≡ 16
unfolding code
closed-satisfied = refl

closed-refuted : code tables (run 2 Refuted) (late 0 2 2 0) ≡ 16
unfolding code
closed-refuted = refl

-- ---- 3 for the new row

positive-bit : code tables (run 2 Open) (late 0 2 4 0) ≡ 3
unfolding code
positive-bit = refl

negative-bit : code tables (run 2 Open) (late 0 2 0 4) ≡ 3
unfolding code
negative-bit = refl

-- ---- which comes first

padding-before-closed : code tables (run 2 Refuted) (late 0 1 1 0) ≡ 15
unfolding code
padding-before-closed = refl

closed-before-bit : code tables (run 2 Satisfied) (late 0 2 4 0) ≡ 16
unfolding code
closed-before-bit = refl

padding-before-bit : code tables (run 2 Open) (late 1 4 4 0) ≡ 15
unfolding code
padding-before-bit = refl

-- no n is 33; and a run of another n
state-before-padding : code tables (run 33 Open) (late 0 1 1 0) ≡ 12
unfolding code
state-before-padding = refl

other-before-padding : code tables (run 3 Refuted) (late 0 1 1 0) ≡ 13
unfolding code
other-before-padding = refl

-- the tables' own 3
tables-before-state : code (all_tables (3 ∷ 0 ∷ 1 ∷ 1 ∷ []) (2 ∷ 2 ∷ 0 ∷ 4 ∷ []) (1 ∷ 1 ∷ [])) (run 33 Open) (late 0 1 1 0) ≡ 3
unfolding code
tables-before-state = refl

-- ---- which words change

-- the last left row
left-words : after tables (run 2 Open) (late 0 2 2 1) ≡ all_tables (3 ∷ 0 ∷ 2 ∷ 1 ∷ 9 ∷ []) (2 ∷ 2 ∷ 0 ∷ 1 ∷ 9 ∷ []) (1 ∷ 1 ∷ [])
unfolding after
left-words = refl

-- the first right row
right_words : after tables (run 2 Open) (late 1 3 1 2) ≡ all_tables (3 ∷ 0 ∷ 1 ∷ 1 ∷ 9 ∷ []) (1 ∷ 2 ∷ 0 ∷ 1 ∷ 9 ∷ []) (1 ∷ 1 ∷ [])
unfolding after
right_words = refl

-- padding by other padding, and by the empty row, which no roster satisfies
by-padding : after tables (run 2 Open) (late 0 2 2 2) ≡ all_tables (3 ∷ 0 ∷ 2 ∷ 2 ∷ 9 ∷ []) (2 ∷ 2 ∷ 0 ∷ 1 ∷ 9 ∷ []) (1 ∷ 1 ∷ [])
unfolding after
by-padding = refl

by-empty : after tables (run 2 Open) (late 1 3 0 0) ≡ all_tables (3 ∷ 0 ∷ 1 ∷ 1 ∷ 9 ∷ []) (0 ∷ 0 ∷ 0 ∷ 1 ∷ 9 ∷ []) (1 ∷ 1 ∷ [])
unfolding after
by-empty = refl

-- padding again may be replaced again, a clause may not
twice : code (after tables (run 2 Open) (late 0 2 2 2)) (run 2 Open) (late 0 2 1 0) ≡ 0
unfolding code after
twice = refl

once : code (after tables (run 2 Open) (late 0 2 2 0)) (run 2 Open) (late 0 2 1 0) ≡ 15
unfolding code after
once = refl

-- refused by 15, 16 and the new row's 3: no word
stays_15 : after tables (run 2 Open) (late 0 3 1 0) ≡ tables
unfolding after
stays_15 = refl

stays_16 : after tables (run 2 Satisfied) (late 0 2 2 0) ≡ tables
unfolding after
stays_16 = refl

stays_3 : after tables (run 2 Open) (late 1 3 4 0) ≡ tables
unfolding after
stays_3 = refl
