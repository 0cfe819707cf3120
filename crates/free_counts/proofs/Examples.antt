-- Counts of three rows, computed, and refusals in their order.
use mathlib.Core.Path.{◌≡◌, refl}
use mathlib.Core.List.{List, [], ◌∷◌}
use Prim.Native.Nat.{ℕ}
use lib.ListN.{length}
use Rattle.refusals.specs.Checks.{outcome}
use Rattle.refusals.specs.Numbers.{code_of}
use Rattle.words.specs.Sets.{bit, all, count}
use Rattle.dimensions.specs.declared.Dimensions.{Dimensions}
use Rattle.dimensions.specs.Sizes.{dimensions}
use Rattle.tables.specs.Tables.{Tables, all_tables}
use Rattle.tables.specs.Rows.{rows_of, free_literals}
use Rattle.tables.specs.Acceptance.{all_below}
use Rattle.state.specs.declared.Run.{Run}
use Rattle.state.specs.State.{fresh, run_of}
use Rattle.state.specs.WellFormed.{disjoint, well_formed}
use Rattle.free_counts.specs.Counts.{free_counts_of, count_checks, counts_after}

-- (1 2) | (-1) | (1 -1)
abbrev d : Dimensions
d = dimensions 2 1 1 1

abbrev tables : Tables
tables = all_tables (3 ∷ 0 ∷ []) (0 ∷ 1 ∷ []) (1 ∷ 1 ∷ [])

-- with T and F empty, padding's variable counts twice
none-set : free_counts_of 2 (rows_of d tables) 0 0 ≡ 2 ∷ 1 ∷ 2 ∷ []
unfolding free_literals bit count
none-set = refl

-- with variable 1 false, the satisfied row has no free literal left, as the padding has none
one_set : free_counts_of 2 (rows_of d tables) 0 1 ≡ 1 ∷ 0 ∷ 0 ∷ []
unfolding free_literals bit count
one_set = refl

-- with variable 1 true, the left row is satisfied and its other literal counts
satisfied-counts : free_counts_of 2 (rows_of d tables) 1 0 ≡ 1 ∷ 0 ∷ 0 ∷ []
unfolding free_literals bit count
satisfied-counts = refl

after : Run → List ℕ → List ℕ
unfolding counts_after free_literals run_of all_below well_formed disjoint bit all count
after run counts = counts_after d tables run counts

code : Run → List ℕ → ℕ
unfolding run_of all_below well_formed disjoint bit all
code run counts = code_of (outcome (count_checks d tables run (length counts)))

-- the fourth byte stays
later_stays : after (run_of 2 fresh) (9 ∷ 9 ∷ 9 ∷ 9 ∷ []) ≡ 2 ∷ 1 ∷ 2 ∷ 9 ∷ []
unfolding after
later_stays = refl

-- two bytes are too few for three rows, and stay
short_stays : after (run_of 2 fresh) (9 ∷ 9 ∷ []) ≡ 9 ∷ 9 ∷ []
unfolding after
short_stays = refl

short : code (run_of 2 fresh) (9 ∷ 9 ∷ []) ≡ 10
unfolding code
short = refl

-- 10 before 13, and 12 where the run's own n is none
short-first : code (run_of 3 fresh) (9 ∷ 9 ∷ []) ≡ 10
unfolding code
short-first = refl

another_n : code (run_of 3 fresh) (9 ∷ 9 ∷ 9 ∷ []) ≡ 13
unfolding code
another_n = refl

no_state : code (run_of 33 fresh) (9 ∷ 9 ∷ 9 ∷ []) ≡ 12
unfolding code
no_state = refl
