-- `run_to_close` meets its contract. The loop's invariant is that of every loop of weighted steps, and that the tally is exact; the measure is how many
-- steps are left.
use Prim.Native.Nat.{◌-◌}
use Rattle.tables.specs.Rows.{rows_from}
use Rattle.state.specs.State.{state_of}
use Rattle.weighted.proofs.KeptRun.{Kept}
use Rattle.weighted.proofs.tallied.run_to_close.Given as goal

abbrev pub invariant-loop-tally : goal.invariant-loop-tally
invariant-loop-tally l = Kept l.initial.last.n (rows_from l.words 0 l.rows) l.times (state_of l.initial.last) l.last l.tally l.steps

abbrev pub decreases-loop-tally : goal.decreases-loop-tally
decreases-loop-tally l = l.times - l.steps
