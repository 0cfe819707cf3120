-- What the run with the weighted choice gives: document 02, "On the same tables throughout, the weighted run has the same verdict whenever
-- both close, its own steps and the same bound".
use Rattle.std.specs.Prelude.{ℕ, ◌≡◌, List}
use Rattle.words.specs.declared.Row.{Row}
use Rattle.verdicts.specs.declared.Verdict.TheVariants.{Unknown}
use Rattle.verdicts.specs.Verdicts.{verdict_number}
use Rattle.solver.specs.declared.Answer.{Answer}
use Rattle.solver.specs.Step.{always}
use Rattle.solver.specs.Entries.{answer_with, answer_of}
use Rattle.demand2.specs.Demand2.{Demand2With}
use Rattle.weighted.specs.Weights.{weighted_rule}

-- the answer of the weighted run over the rows as they are at each step
abbrev pub weighted_answer : ℕ → (ℕ → List Row) → ℕ → Answer
weighted_answer n rows budget = answer_with weighted_rule n rows budget

-- n variables and the rows of tables that stay as they are
pub record WeightedRun (n : ℕ) (rows : List Row) : Type 0 where
  -- where neither the plain nor the weighted run is unknown, each under a budget of its own, the verdicts are the same
  pub same-verdict : (budget other : ℕ) → ((answer_of n (always rows) budget).verdict ≡ Unknown → ⊥)
      → ((weighted_answer n (always rows) other).verdict ≡ Unknown → ⊥)
      → verdict_number (weighted_answer n (always rows) other).verdict ≡ verdict_number (answer_of n (always rows) budget).verdict
  -- demand 2, of its own steps: the count is theirs, and the bound is the plain run's, since it is over the same rows
  pub own_steps : (budget : ℕ) → Demand2With weighted_rule n (always rows) budget (weighted_answer n (always rows) budget)
