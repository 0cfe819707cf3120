-- The weighted run over accepted tables: demand 2 holds of it as of any run by a ruling whose rule applies, and so it has the plain run's verdict.
use mathlib.Core.Path.{◌≡◌}
use mathlib.Core.List.{List}
use Prim.Native.Nat.{ℕ}
use Rattle.std.specs.Prelude.{Ok}
use Rattle.refusals.specs.Checks.{outcome}
use Rattle.words.specs.declared.Row.{Row}
use Rattle.dimensions.specs.declared.Dimensions.{Dimensions}
use Rattle.tables.specs.Tables.{Tables}
use Rattle.tables.specs.Rows.{rows_of}
use Rattle.tables.specs.Acceptance.{table_checks}
use Rattle.verdicts.specs.declared.Verdict.TheVariants.{Unknown}
use Rattle.verdicts.specs.Verdicts.{verdict_number}
use Rattle.solver.specs.Step.{always}
use Rattle.solver.specs.Entries.{answer_of}
use Rattle.demand2.specs.Demand2.{Demand2With}
use Rattle.demand2.proofs.Demand2.{demand2, demand2_tables}
use Rattle.demand2.proofs.Consequences.{same-verdict}
use Rattle.weighted.specs.Weights.{weighted_rule}
use Rattle.weighted.specs.WeightedRun.{weighted_answer, WeightedRun}
use Rattle.weighted.proofs.Applying.{weighted_applies}

module _ (d : Dimensions) (tables : Tables) (taken : outcome (table_checks d tables) ≡ Ok tt) where
  abbrev rows : ℕ → List Row
  rows = always (rows_of d tables)

  -- demand 2 of weighted steps over accepted tables, under any budget
  pub weighted_demand2 : (budget : ℕ) → Demand2With weighted_rule d.n rows budget (weighted_answer d.n rows budget)
  weighted_demand2 budget = demand2_tables weighted_rule weighted_applies d tables budget taken

  verdicts_agree : (budget other : ℕ) → ((answer_of d.n rows budget).verdict ≡ Unknown → ⊥) → ((weighted_answer d.n rows other).verdict ≡ Unknown → ⊥)
      → verdict_number (weighted_answer d.n rows other).verdict ≡ verdict_number (answer_of d.n rows budget).verdict
  verdicts_agree budget other decided decided' =
      same-verdict d.n (rows_of d tables) other budget (weighted_answer d.n rows other) (answer_of d.n rows budget) (weighted_demand2 other)
      (demand2 d tables budget taken) decided' decided

  -- the weighted run over accepted tables has the plain run's verdict whenever both close, its own steps and the same bound
  pub weighted_run : WeightedRun d.n (rows_of d tables)
  weighted_run = record {
    same-verdict = verdicts_agree;
    own_steps = weighted_demand2;
  }
