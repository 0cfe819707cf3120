-- `run_to_close` meets its contract. The loop's invariant is that of the plain run, and that the tally is exact; the measure is how many steps are left.
use Prim.Native.Nat.{◌-◌}
use Rattle.tables.specs.Rows.{rows_from}
use Rattle.state.specs.State.{state_of}
use Rattle.indexed.proofs.Running.{Kept}
use Rattle.indexed.proofs.tallied.run_to_close.Given as goal

abbrev pub invariant-loop-held : goal.invariant-loop-held
invariant-loop-held l = Kept l.initial.held.run.n (rows_from l.words 0 l.rows) l.times (state_of l.initial.held.run) l.held l.steps

abbrev pub decreases-loop-held : goal.decreases-loop-held
decreases-loop-held l = l.times - l.steps
