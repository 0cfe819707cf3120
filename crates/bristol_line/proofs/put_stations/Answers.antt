-- `put_stations` meets its contract: its three pieces follow one another.
use Prim.Native.Nat.{◌*◌}
use native.Mathlib.Omega.{arith}
use Rattle.bristol_line.specs.ByValue.{spaced}
use Rattle.bristol_line.proofs.Pieces.{width_fits, three_pieces}
use Rattle.bristol_line.proofs.put_stations.Goals as goal

pub overflow_mul-row-2 : goal.overflow_mul-row-2
overflow_mul-row-2 c = record { fits = width_fits _ _ (omega arith) (omega arith) }

pub overflow_mul-row-3 : goal.overflow_mul-row-3
overflow_mul-row-3 c = record { fits = width_fits _ _ (omega arith) (omega arith) }

pub returns : goal.returns
returns c =
    let d = c.args.d in
    let left = c.put_field-left in
    let right = c.put_field-right in
    let p = three_pieces c.args.bytes.now (spaced c.args.count) (spaced (2 * d.n * d.left)) (spaced (2 * d.n * d.right)) _ _ _ _ _ _
    (left.ensures.value, left.ensures.bytes_after)
    (right.ensures.value, right.ensures.bytes_after)
    (c.put_field.ensures.value, c.put_field.ensures.bytes_after) in
    record {
      upper_bound = omega (arith, left.ensures.upper_bound, right.ensures.upper_bound, c.put_field.ensures.upper_bound);
      value = omega (arith, p.0);
      bytes_after = p.1;
    }
