-- `fill` meets its contract. The invariant: what was read is within the buffer, which keeps its length and its bytes below `from`, and the file gave
-- what was read.
use Prim.Native.Nat.{◌≤◌, ◌-◌}
use mathlib.Core.Path.{◌≡◌}
use lib.ListN.{length, take, drop}
use Rattle.input.proofs.Giving.{HasGiven}
use Rattle.input.proofs.fill.Given as goal

abbrev pub invariant-loop-done : goal.invariant-loop-done
invariant-loop-done g l =
    (l.done ≤ length l.buf) × (length l.buf ≡ length l.initial.buf) × (l.from ≤ l.done) × (take l.from l.buf ≡ take l.from l.initial.buf)
    × HasGiven g.F.Read.remaining l.initial.file l.file (drop l.from (take l.done l.buf))

abbrev pub decreases-loop-done : goal.decreases-loop-done
decreases-loop-done g l = length l.buf - l.done
