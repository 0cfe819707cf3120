-- What the bounds come to, from the statements alone: the bound by n, one step for no variable, and the run continued in slices.
use mathlib.Core.Path.{◌≡◌, refl, ap, ◌∙◌}
use mathlib.Core.List.{List, [], ◌∷◌, map}
use Prim.Native.Nat.{ℕ, suc, ◌+◌, ◌-◌, ◌^◌, ◌≤◌}
use native.Mathlib.Omega.{arith}
use lib.ListN.{length}
use Rattle.std.specs.Prelude.{Ok}
use Rattle.dimensions.specs.declared.Dimensions.{Dimensions}
use Rattle.tables.specs.Tables.{Tables}
use Rattle.tables.specs.Rows.{rows_of}
use Rattle.state.specs.declared.Standing.TheVariants.{Open}
use Rattle.verdicts.specs.declared.Verdict.TheVariants.{Unknown}
use Rattle.solver.specs.declared.Answer.{Answer}
use Rattle.solver.specs.Entries.{solved_with, solved}
use Rattle.truth.specs.Truth.{occurring}
use Rattle.demand2.specs.Demand2.{most_steps}
use Rattle.weighted.specs.Weights.{weighted_rule}
use Rattle.repeats.specs.Repeats.{Attempt, long_ones}
use Rattle.whole_budget.specs.WholeBudget.{solved_whole}
use Rattle.demand3.specs.Demand3.{history_of, answer_in}
use Rattle.late_runs.specs.Schedule.{tables_at}
use Rattle.late_runs.specs.Host.{Step, steps_of}
use Rattle.bounds.specs.CountingHost.{HostCall, ContinuePlain, ContinueWeighted, CountingHost, act_counting, play_counting, started_counting, call_asks}
use Rattle.bounds.specs.CountingHost.{steps_asked}
use Rattle.bounds.specs.IndexedHost.{play_indexed, started_indexed}
use Rattle.bounds.specs.Bounds.{Bounds, CircuitBounds, HostBounds, IndexedBounds}

-- ---- from the fresh run

module _ (d : Dimensions) (tables : Tables) (budget : ℕ) (holds : Bounds d tables budget) where
  -- 2 ^ (n + 1) - 1
  abbrev most_by_n : ℕ
  most_by_n = 2 ^ suc d.n - 1

  abbrev k : ℕ
  k = occurring d.n (rows_of d tables)

  module _ (answer : Answer) (e : solved d tables budget ≡ Ok answer) where
    -- the bound by n: no more steps, and a budget that reaches so far decides
    pub plain-by-n : (answer.count ≤ most_by_n) × (most_by_n ≤ budget → answer.verdict ≡ Unknown → ⊥)
    plain-by-n = (omega (arith, (holds.plain answer e).most, holds.by_n), λ h. (holds.plain answer e).enough (omega (arith, holds.by_n)))

    -- with k = 0 the first step is the last
    pub plain-first : k ≡ 0 → 1 ≤ budget → answer.count ≡ 1
    plain-first none some = ((holds.plain answer e).one none some).0

  module _ (answer : Answer) (e : solved_with weighted_rule d tables budget ≡ Ok answer) where
    pub weighted_by-n : (answer.count ≤ most_by_n) × (most_by_n ≤ budget → answer.verdict ≡ Unknown → ⊥)
    weighted_by-n = (omega (arith, (holds.weighted answer e).most, holds.by_n), λ h. (holds.weighted answer e).enough (omega (arith, holds.by_n)))

    pub weighted_first : k ≡ 0 → 1 ≤ budget → answer.count ≡ 1
    weighted_first none some = ((holds.weighted answer e).one none some).0

  -- through the whole budget: decided, and the count is the budget still
  pub whole-by-n : (gates bytes wires : List ℕ) (answer : Answer) → solved_whole d tables budget gates bytes wires ≡ Ok answer
      → most_by_n ≤ budget → (answer.count ≡ budget) × (answer.verdict ≡ Unknown → ⊥)
  whole-by-n gates bytes wires answer e h =
      let w = holds.whole gates bytes wires answer e in (w.0, w.1 (omega (arith, holds.by_n)))

-- the circuit's repeats over tables that stay: under a budget and with long enough attempts that reach so far there is a verdict, after no more repeats
pub circuit-within : (d : Dimensions) (tables : Tables) (budget : ℕ) (attempts : List Attempt) → CircuitBounds d tables [] budget attempts
    → most_steps d.n (rows_of d tables) ≤ long_ones d attempts → most_steps d.n (rows_of d tables) ≤ budget
    → let h = history_of d (tables_at d tables []) budget attempts in
    (length h ≤ most_steps d.n (rows_of d tables)) × ((answer_in d.n h).verdict ≡ Unknown → ⊥)
unfolding tables_at
circuit-within d tables budget attempts holds long h = (holds.most, (holds.answer (holds.enough long)).enough h)

-- ---- a run continued in slices

abbrev total : List ℕ → ℕ
total [] = 0
total (times ∷ more) = times + total more

-- calls that say how often to go on, and leave the tables
module _ (d : Dimensions) (tables : Tables) (call : ℕ → HostCall) (asks : (times : ℕ) → call_asks d (call times) ≡ times)
    (leaves : (h : CountingHost) (times : ℕ) → (act_counting d h (call times)).tables ≡ h.tables) where
  asked-total : (slices : List ℕ) → steps_asked d (map call slices) ≡ total slices
  unfolding steps_asked
  asked-total [] = refl
  asked-total (times ∷ more) = omega (arith, asks times, asked-total more)

  tables_stay : (slices : List ℕ) (h : CountingHost) → (play_counting d h (map call slices)).tables ≡ h.tables
  unfolding play_counting
  tables_stay [] h = refl
  tables_stay (times ∷ more) h = tables_stay more (act_counting d h (call times)) ∙ leaves h times

  within : (slices : List ℕ) → HostBounds d tables (map call slices) → let h = play_counting d (started_counting d tables) (map call slices) in
      (h.count ≤ most_steps d.n (rows_of d tables)) × (most_steps d.n (rows_of d tables) ≤ total slices → h.run.standing ≡ Open → ⊥)
  within slices holds =
      let h = play_counting d (started_counting d tables) (map call slices) in
      let kept : most_steps d.n (rows_of d h.tables) ≡ most_steps d.n (rows_of d tables) =
      ap (λ (t : Tables). most_steps d.n (rows_of d t)) (tables_stay slices (started_counting d tables)) in
      (omega (arith, kept, holds.most), λ reach. holds.enough (omega (arith, kept, asked-total slices)))

module _ (d : Dimensions) (tables : Tables) (slices : List ℕ) where
  -- slices that add up to 2 ^ (k + 1) - 1 close the run, and the steps that they took never add up to more
  pub plain_slices : HostBounds d tables (map ContinuePlain slices) → let h = play_counting d (started_counting d tables) (map ContinuePlain slices) in
      (h.count ≤ most_steps d.n (rows_of d tables)) × (most_steps d.n (rows_of d tables) ≤ total slices → h.run.standing ≡ Open → ⊥)
  unfolding act_counting
  plain_slices = within d tables ContinuePlain (λ times. refl) (λ h times. refl) slices

  -- and so with the weighted choice
  pub weighted_slices : HostBounds d tables (map ContinueWeighted slices)
      → let h = play_counting d (started_counting d tables) (map ContinueWeighted slices) in
      (h.count ≤ most_steps d.n (rows_of d tables)) × (most_steps d.n (rows_of d tables) ≤ total slices → h.run.standing ≡ Open → ⊥)
  unfolding act_counting
  weighted_slices = within d tables ContinueWeighted (λ times. refl) (λ h times. refl) slices

-- ---- a host's calls

-- where no variable occurs in the tables that it holds, one step asked for has closed the run
pub one-closes : (d : Dimensions) (tables : Tables) (calls : List HostCall) → HostBounds d tables calls
    → let h = play_counting d (started_counting d tables) calls in
    occurring d.n (rows_of d h.tables) ≡ 0 → 1 ≤ steps_asked d calls → (h.count ≤ 1) × (h.run.standing ≡ Open → ⊥)
one-closes d tables calls holds none some =
    let one : most_steps d.n (rows_of d (play_counting d (started_counting d tables) calls).tables) ≡ 1 = ap (λ (k : ℕ). 2 ^ suc k - 1) none in
    (omega (arith, one, holds.most), holds.enough (omega (arith, one)))

-- the same with an index: one step
pub one_indexed : (d : Dimensions) (tables : Tables) → IndexedBounds d tables (Step ∷ []) → let h = play_indexed d (started_indexed d tables) (Step ∷ []) in
    occurring d.n (rows_of d h.tables) ≡ 0 → (h.count ≤ 1) × (h.run.standing ≡ Open → ⊥)
unfolding steps_of
one_indexed d tables holds none =
    let one : most_steps d.n (rows_of d (play_indexed d (started_indexed d tables) (Step ∷ [])).tables) ≡ 1 = ap (λ (k : ℕ). 2 ^ suc k - 1) none in
    (omega (arith, one, holds.most), holds.enough (omega (arith, one)))
