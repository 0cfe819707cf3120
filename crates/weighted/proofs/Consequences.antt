-- What the weighted run's statement comes to, from its fields alone: under a budget of 2 ^ (n + 1) - 1 plain and weighted run say the same, and the
-- weighted run's count is within the plain run's bound.
use mathlib.Core.Path.{◌≡◌}
use mathlib.Core.List.{List}
use Prim.Native.Nat.{ℕ, suc, ◌-◌, ◌^◌, ◌≤◌}
use Rattle.words.specs.declared.Row.{Row}
use Rattle.verdicts.specs.Verdicts.{verdict_number}
use Rattle.solver.specs.Step.{always}
use Rattle.solver.specs.Entries.{answer_of}
use Rattle.truth.specs.Truth.{occurring}
use Rattle.demand2.specs.Demand2.{Demand2}
use Rattle.weighted.specs.WeightedRun.{weighted_answer, WeightedRun}

module _ (n : ℕ) (rows : List Row) (holds : WeightedRun n rows) where
  -- with a budget that is always enough, whatever plain run meets demand 2
  pub same-said : (budget : ℕ) → 2 ^ suc n - 1 ≤ budget → Demand2 n (always rows) budget (answer_of n (always rows) budget)
      → verdict_number (weighted_answer n (always rows) budget).verdict ≡ verdict_number (answer_of n (always rows) budget).verdict
  same-said budget h plain = holds.same-verdict budget budget (plain.bound_n h) ((holds.own_steps budget).bound_n h)

  -- the weighted run's steps are within the plain run's bound
  pub same_bound : (budget : ℕ) → (weighted_answer n (always rows) budget).count ≤ 2 ^ suc (occurring n rows) - 1
  same_bound budget = (holds.own_steps budget).bound_count
