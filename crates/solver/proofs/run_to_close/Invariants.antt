-- `run_to_close` meets its contract. The loop's invariant: what is left of the budget from the present run gives what the whole gives from the fresh one. The
-- measure is what is left of the budget.
use Prim.Native.Nat.{◌-◌}
use Rattle.tables.specs.Tables.{words_in}
use Rattle.tables.specs.Rows.{rows_of}
use Rattle.state.specs.State.{fresh}
use Rattle.solver.proofs.BudgetedRun.{Running}
use Rattle.solver.proofs.run_to_close.Given as goal

abbrev pub invariant-loop-d : goal.invariant-loop-d
invariant-loop-d l = Running l.d.n (rows_of l.d (words_in l.tables)) l.budget fresh l.run l.count

abbrev pub decreases-loop-d : goal.decreases-loop-d
decreases-loop-d l = l.budget - l.count
