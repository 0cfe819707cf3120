-- Tables refused, in document 01's order, and rows that T and F make true or not, computed.
use mathlib.Core.Path.{◌≡◌, refl}
use mathlib.Core.Bool.{true, false}
use mathlib.Core.List.{List, [], ◌∷◌}
use Prim.Native.Nat.{ℕ}
use Rattle.refusals.specs.Checks.{outcome}
use Rattle.refusals.specs.Numbers.{code_of}
use Rattle.words.specs.declared.Row.{Row}
use Rattle.words.specs.Sets.{bit, any, count, lowest}
use Rattle.dimensions.specs.Sizes.{dimensions}
use Rattle.tables.specs.Tables.{all_tables}
use Rattle.tables.specs.Rows.{rows_of, satisfied, free_literals, look_at, look_number}
use Rattle.tables.specs.Acceptance.{all_below, table_checks}

-- ---- acceptance: n, row counts, words

code : ℕ → ℕ → ℕ → ℕ → List ℕ → List ℕ → List ℕ → ℕ
unfolding all_below
code n l r p left right public = code_of (outcome (table_checks (dimensions n l r p) (all_tables left right public)))

accepted : code 2 1 1 1 (3 ∷ 0 ∷ []) (0 ∷ 3 ∷ []) (1 ∷ 2 ∷ []) ≡ 0
unfolding code
accepted = refl

-- no public rows
none_public : code 2 1 1 0 (3 ∷ 0 ∷ []) (0 ∷ 3 ∷ []) [] ≡ 0
unfolding code
none_public = refl

-- words past 2 × rows are not looked at
past_the_rows : code 2 1 1 0 (3 ∷ 0 ∷ 4 ∷ []) (0 ∷ 3 ∷ 4 ∷ []) (4 ∷ []) ≡ 0
unfolding code
past_the_rows = refl

left-bit : code 2 1 1 0 (4 ∷ 0 ∷ []) (0 ∷ 3 ∷ []) [] ≡ 3
unfolding code
left-bit = refl

right_bit : code 2 1 1 0 (3 ∷ 0 ∷ []) (0 ∷ 4 ∷ []) [] ≡ 3
unfolding code
right_bit = refl

public_bit : code 2 1 1 1 (3 ∷ 0 ∷ []) (0 ∷ 3 ∷ []) (0 ∷ 4 ∷ []) ≡ 3
unfolding code
public_bit = refl

-- the public buffer's 4 before the left one's 3
buffer_before-bit : code 2 1 1 1 (4 ∷ 0 ∷ []) (0 ∷ 3 ∷ []) (0 ∷ []) ≡ 4
unfolding code
buffer_before-bit = refl

-- the public count's 2 before the left buffer's 4
count-before_buffer : code 2 1 1 129 [] [] [] ≡ 2
unfolding code
count-before_buffer = refl

no_row : code 2 0 1 0 [] (0 ∷ 3 ∷ []) [] ≡ 2
unfolding code
no_row = refl

variables_before-count : code 33 0 0 129 [] [] [] ≡ 1
unfolding code
variables_before-count = refl

-- ---- rows

-- positive, then negative word
abbrev row : ℕ → ℕ → Row
row positive negative = record { positive = positive; negative = negative }

-- the left station's first, the public ones last
in_order : rows_of (dimensions 2 2 1 1) (all_tables (1 ∷ 0 ∷ 2 ∷ 0 ∷ []) (0 ∷ 3 ∷ []) (2 ∷ 1 ∷ [])) ≡ row 1 0 ∷ row 2 0 ∷ row 0 3 ∷ row 2 1 ∷ []
in_order = refl

-- (1 -1) is padding, and true whatever T and F are
padding-satisfied : satisfied 2 (row 1 1) 0 0 ≡ true
unfolding satisfied bit any
padding-satisfied = refl

-- () is never true
empty-unsatisfied : satisfied 2 (row 0 0) 1 2 ≡ false
unfolding satisfied bit any
empty-unsatisfied = refl

positive_in_t : satisfied 2 (row 1 2) 1 0 ≡ true
unfolding satisfied bit any
positive_in_t = refl

negative_in_f : satisfied 2 (row 1 2) 0 2 ≡ true
unfolding satisfied bit any
negative_in_f = refl

both_false : satisfied 2 (row 1 2) 2 1 ≡ false
unfolding satisfied bit any
both_false = refl

one_free : free_literals 2 (row 1 2) 0 1 ≡ 1
unfolding free_literals bit count
one_free = refl

-- a padding row's free variable counts twice
padding-twice : free_literals 2 (row 1 1) 0 0 ≡ 2
unfolding free_literals bit count
padding-twice = refl

-- a satisfied row's free literals count
satisfied-counted : free_literals 2 (row 3 0) 1 0 ≡ 1
unfolding free_literals bit count
satisfied-counted = refl

-- the most that a row can have
all-free : free_literals 32 (row 4294967295 4294967295) 0 0 ≡ 64
unfolding free_literals bit count
all-free = refl

-- ---- the variable to look at, from 1, or 0

look : ℕ → ℕ → ℕ → ℕ → ℕ
unfolding look_at bit any lowest
look positive negative t f = look_number (look_at 32 (row positive negative) t f)

-- (1 2 3 -2 -3): the lowest in both words, though 1 is true and lower
padding-look : look 7 6 1 4 ≡ 2
unfolding look
padding-look = refl

-- only the last variable in both words, and all others set as the row holds them
last-padding-look : look 4294967295 2147483648 2147483647 0 ≡ 32
unfolding look
last-padding-look = refl

-- (1 -2 3 4): true by 3, though 1 is free and lower
true-look : look 13 2 12 0 ≡ 3
unfolding look
true-look = refl

-- (1 -2 3): true by -2 and by 3
true-twice-look : look 5 2 4 2 ≡ 2
unfolding look
true-twice-look = refl

-- (2 -1 -3): true by 2 and by -3
positive-first-look : look 2 5 2 4 ≡ 2
unfolding look
positive-first-look = refl

-- (1 -2 3) with 1 false: the lowest free one, in either word
free-look : look 5 2 0 1 ≡ 2
unfolding look
free-look = refl

-- (1 -2) with 1 false and 2 true: a conflict
conflict_look : look 1 2 2 1 ≡ 0
unfolding look
conflict_look = refl

-- ()
empty-look : look 0 0 1 2 ≡ 0
unfolding look
empty-look = refl
