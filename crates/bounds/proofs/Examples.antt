-- Small cases computed: three variables of which one, none or all occur, late conditions, and the tables that take most steps. By computation.
use mathlib.Core.Path.{◌≡◌, refl}
use mathlib.Core.List.{List, [], ◌∷◌, map}
use Prim.Native.Nat.{ℕ, zero, suc, ◌-◌, ◌^◌}
use Rattle.std.specs.Prelude.{Result, Ok}
use Rattle.refusals.specs.declared.Refusal.{Refusal}
use Rattle.solver.specs.declared.Answer.{Answer}
use Rattle.words.specs.Sets.{bit, put, any, all, count, lowest}
use Rattle.tables.specs.Acceptance.{all_below}
use Rattle.state.specs.WellFormed.{well_formed}
use Rattle.dimensions.specs.declared.Dimensions.{Dimensions}
use Rattle.dimensions.specs.Sizes.{dimensions}
use Rattle.tables.specs.Tables.{Tables, all_tables}
use Rattle.tables.specs.Rows.{padding, satisfied, free_literals, rows_of}
use Rattle.verdicts.specs.declared.Verdict.TheVariants.{Unsatisfiable}
use Rattle.solver.specs.Entries.{solved_with, solved}
use Rattle.truth.specs.Truth.{occurring}
use Rattle.demand2.specs.Demand2.{most_steps}
use Rattle.weighted.specs.Weights.{weighted_rule}
use Rattle.late.specs.declared.Condition.{Condition}
use Rattle.bounds.specs.CountingHost.{HostCall, StepPlain, ContinueWeighted, ReplaceRow, CountingHost, play_counting, started_counting}

-- ---- which variables count

abbrev small : Dimensions
small = dimensions 3 1 1 0

-- (2) | padding in all three variables
abbrev one : Tables
one = all_tables (2 ∷ 0 ∷ []) (7 ∷ 7 ∷ []) []

-- padding | padding
abbrev none : Tables
none = all_tables (1 ∷ 1 ∷ []) (7 ∷ 7 ∷ []) []

-- padding rows do not count
pub one-occurs : most_steps 3 (rows_of small one) ≡ 3
unfolding occurring padding bit any count
one-occurs = refl

pub none-occurs : most_steps 3 (rows_of small none) ≡ 1
unfolding occurring padding bit any count
none-occurs = refl

-- ---- a late condition

-- row 2, the right station's: (1)
abbrev late : Condition
late = record { station = 1; replaced = 2; row = record { positive = 1; negative = 0 } }

abbrev after : List HostCall → CountingHost
after calls = play_counting small (started_counting small none) calls

-- before the first step it adds a variable: two steps, more than the one that the tables at the start allow
pub late_steps : (after (ReplaceRow late ∷ StepPlain ∷ ContinueWeighted 5 ∷ [])).count ≡ 2
unfolding play_counting all_below well_formed free_literals padding satisfied bit put any all count lowest
late_steps = refl

pub late_bound : most_steps 3 (rows_of small (after (ReplaceRow late ∷ StepPlain ∷ ContinueWeighted 5 ∷ [])).tables) ≡ 3
unfolding play_counting all_below well_formed free_literals padding satisfied bit put any all count lowest occurring
late_bound = refl

-- ---- how near the bound comes: all 2 ^ k clauses of k variables

-- the clauses of the first i words of positive literals, the other variables negative
abbrev clauses : ℕ → ℕ → List ℕ
clauses top zero = []
clauses top (suc i) = i ∷ ((top - i) ∷ clauses top i)

-- n is 4: the clauses of variables 1 to k | padding in all four
abbrev sized : ℕ → Dimensions
sized k = dimensions 4 (2 ^ k) 1 0

abbrev full : ℕ → Tables
full k = all_tables (clauses (2 ^ k - 1) (2 ^ k)) (15 ∷ 15 ∷ []) []

-- the counts of unsatisfiable
abbrev refuted : List ℕ → List (Result Answer Refusal)
refuted counts = map (λ (c : ℕ). Ok (record { count = c; verdict = Unsatisfiable })) counts

abbrev sizes : List ℕ
sizes = 0 ∷ 1 ∷ 2 ∷ 3 ∷ 4 ∷ []

-- 2 ^ (k + 1) - 1
pub full_bounds : map (λ (k : ℕ). most_steps 4 (rows_of (sized k) (full k))) sizes ≡ 1 ∷ 3 ∷ 7 ∷ 15 ∷ 31 ∷ []
unfolding occurring padding bit any count
full_bounds = refl

-- they take 3 * 2 ^ (k - 1) - 1 steps where k is not 0: the last free variable is never chosen, since its clauses force it
pub full-counts : map (λ (k : ℕ). solved (sized k) (full k) 99) sizes ≡ refuted (1 ∷ 2 ∷ 5 ∷ 11 ∷ 23 ∷ [])
unfolding solved all_below free_literals padding satisfied bit put any all count lowest
full-counts = refl

-- and so with the weighted choice
pub full_weighted : map (λ (k : ℕ). solved_with weighted_rule (sized k) (full k) 99) sizes ≡ refuted (1 ∷ 2 ∷ 5 ∷ 11 ∷ 23 ∷ [])
unfolding solved_with weighted_rule all_below free_literals padding satisfied bit put any all count lowest
full_weighted = refl
