-- What a step tells in small cases, computed: each rule, and of several rows the one that is named.
use mathlib.Core.Path.{◌≡◌, refl}
use mathlib.Core.List.{List, [], ◌∷◌}
use Prim.Native.Nat.{ℕ}
use Rattle.words.specs.declared.Row.{Row}
use Rattle.words.specs.Sets.{bit, any, all, count, lowest}
use Rattle.dimensions.specs.Sizes.{dimensions}
use Rattle.tables.specs.Tables.{all_tables}
use Rattle.tables.specs.Acceptance.{all_below}
use Rattle.tables.specs.Rows.{free_literals}
use Rattle.state.specs.declared.Standing.TheVariants.{Open, Satisfied, Refuted}
use Rattle.state.specs.declared.Run.{Run}
use Rattle.state.specs.State.{State, fresh, run_of}
use Rattle.state.specs.WellFormed.{disjoint, well_formed}
use Rattle.explained.specs.Explanation.{explanation, explained, told_of, explained_said, told_numbers}

-- a row of two words
abbrev row : ℕ → ℕ → Row
row p q = record { positive = p; negative = q }

-- an open state without levels, and one whose level chose variable 1
abbrev at : ℕ → ℕ → State
at t f = record { standing = Open; t = t; f = f; levels = [] }

abbrev chose : State
chose = record { standing = Open; t = 1; f = 0; levels = record { t = 0; f = 0; chosen = 0 } ∷ [] }

-- rule, row, variable, value
tells : List Row → State → List ℕ
unfolding explanation bit any count lowest free_literals
tells rows s = told_numbers (explanation 2 rows s)

-- ---- each rule

all-satisfied : tells (row 1 0 ∷ row 2 2 ∷ []) (at 1 0) ≡ 1 ∷ 0 ∷ 0 ∷ 0 ∷ []
unfolding tells
all-satisfied = refl

-- the level's variable goes to F
with-level : tells (row 0 1 ∷ []) chose ≡ 2 ∷ 1 ∷ 1 ∷ 0 ∷ []
unfolding tells
with-level = refl

without-level : tells (row 0 1 ∷ []) (at 1 0) ≡ 3 ∷ 1 ∷ 0 ∷ 0 ∷ []
unfolding tells
without-level = refl

forced-true : tells (row 2 0 ∷ []) fresh ≡ 4 ∷ 1 ∷ 2 ∷ 1 ∷ []
unfolding tells
forced-true = refl

forced-false : tells (row 0 2 ∷ []) fresh ≡ 4 ∷ 1 ∷ 2 ∷ 0 ∷ []
unfolding tells
forced-false = refl

chosen : tells (row 2 1 ∷ []) fresh ≡ 5 ∷ 0 ∷ 1 ∷ 1 ∷ []
unfolding tells
chosen = refl

-- a closed run tells nothing, whatever its rows
was-satisfied : tells (row 1 0 ∷ []) (record { standing = Satisfied; t = 1; f = 0; levels = [] }) ≡ 0 ∷ 0 ∷ 0 ∷ 0 ∷ []
unfolding tells
was-satisfied = refl

was-refuted : tells (row 0 0 ∷ []) (record { standing = Refuted; t = 0; f = 0; levels = [] }) ≡ 0 ∷ 0 ∷ 0 ∷ 0 ∷ []
unfolding tells
was-refuted = refl

-- ---- which row

-- two rows in conflict after one that is satisfied
first_conflict : tells (row 1 0 ∷ row 0 1 ∷ row 0 1 ∷ []) (at 1 0) ≡ 3 ∷ 2 ∷ 0 ∷ 0 ∷ []
unfolding tells
first_conflict = refl

-- a row that forces a literal comes before the one in conflict
unit-before_conflict : tells (row 2 0 ∷ row 0 1 ∷ []) chose ≡ 2 ∷ 2 ∷ 1 ∷ 0 ∷ []
unfolding tells
unit-before_conflict = refl

-- the row that forces the other sign comes first: the positive literal is taken, and its row named
other-sign-first : tells (row 0 1 ∷ row 1 0 ∷ []) fresh ≡ 4 ∷ 2 ∷ 1 ∷ 1 ∷ []
unfolding tells
other-sign-first = refl

-- the row that forces a higher variable comes first
higher_first : tells (row 2 0 ∷ row 0 1 ∷ []) fresh ≡ 4 ∷ 2 ∷ 1 ∷ 0 ∷ []
unfolding tells
higher_first = refl

-- a row that holds the literal with another free one, and padding, force nothing
two-free-first : tells (row 3 0 ∷ row 1 1 ∷ row 1 0 ∷ row 1 0 ∷ []) fresh ≡ 4 ∷ 3 ∷ 1 ∷ 1 ∷ []
unfolding tells
two-free-first = refl

-- ---- the entry, over three tables of one row each

says : List ℕ → Run → List ℕ
unfolding explained explanation run_of all_below well_formed disjoint bit any all count lowest free_literals
says right run = explained_said (told_of (explained (dimensions 1 1 1 1) (all_tables (1 ∷ 1 ∷ []) right (0 ∷ 1 ∷ [])) run))

-- rows are numbered over all tables: the right station's is the second, the public one the third
right_row : says (1 ∷ 0 ∷ []) (run_of 1 fresh) ≡ 0 ∷ 4 ∷ 2 ∷ 1 ∷ 1 ∷ []
unfolding says
right_row = refl

public_row : says (1 ∷ 1 ∷ []) (run_of 1 fresh) ≡ 0 ∷ 4 ∷ 3 ∷ 1 ∷ 0 ∷ []
unfolding says
public_row = refl

-- a run of another n: 13, and nothing is said
another_n : says (1 ∷ 1 ∷ []) (run_of 2 fresh) ≡ 13 ∷ []
unfolding says
another_n = refl

-- 3 before 13
bit-first : says (2 ∷ 0 ∷ []) (run_of 2 fresh) ≡ 3 ∷ []
unfolding says
bit-first = refl
