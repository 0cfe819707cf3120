-- `weigh_rows` meets its contract. The loop's invariant: the floats held and the rows left weigh what the floats at the start and all rows weigh.
use Prim.Native.Nat.{◌/◌}
use lib.ListN.{length}
use Rattle.tables.specs.Rows.{rows_from}
use Rattle.weighted.specs.Weights.{weight}
use Rattle.weighted.proofs.Weighing.{Weighing}
use Rattle.weighted.proofs.Weighing.{rest_from}
use Rattle.weighted.proofs.weights.weigh_rows.Given as goal

abbrev pub invariant-loop-positive : goal.invariant-loop-positive
invariant-loop-positive l =
    Weighing (weight 32 (rows_from l.rows 0 (length l.rows / 2)) l.t l.f)
    (rest_from l.t l.f l.rows (length l.rows / 2) l.positive-index) l.initial.weights l.weights
