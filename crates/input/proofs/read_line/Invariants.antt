-- `read_line` meets its contract. The invariant: what was read is within the buffer and has no LF, the bytes after are as they were, and the input
-- gave what was read.
use Prim.Native.Nat.{◌≤◌, ◌-◌}
use mathlib.Core.Path.{◌≡◌}
use lib.ListN.{length, take, drop}
use Rattle.std.specs.Io.KnownBytes.{Consumes}
use Rattle.input.proofs.Lines.{Unended}
use Rattle.input.proofs.read_line.Given as goal

abbrev pub invariant-loop-done : goal.invariant-loop-done
invariant-loop-done g l =
    (l.done ≤ length l.buf) × (length l.buf ≡ length l.initial.buf) × Unended (take l.done l.buf) × (drop l.done l.buf ≡ drop l.done l.initial.buf)
    × Consumes (g.I.Read.remaining l.initial.input) (g.I.Read.remaining l.input) (take l.done l.buf)

abbrev pub decreases-loop-done : goal.decreases-loop-done
decreases-loop-done g l = length l.buf - l.done
