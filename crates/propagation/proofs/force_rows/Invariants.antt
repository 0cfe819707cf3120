-- `force_rows` meets its contract. The loop's invariant: what the rows left give is what all give.
use Rattle.std.proofs.Common.{length, ◌/◌}
use Rattle.propagation.proofs.Passes.{Left}
use Rattle.propagation.proofs.force_rows.Given as goal

abbrev pub invariant-loop-positive : goal.invariant-loop-positive
invariant-loop-positive l = Left l.rows (length l.rows / 2) l.fn.t l.fn.f l.positive-index l.t l.f
