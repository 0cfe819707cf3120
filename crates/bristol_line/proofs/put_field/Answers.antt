-- `put_field` meets its contract: a byte after the digits is stored with them.
use native.Mathlib.Omega.{arith}
use Rattle.text.specs.Decimal.{decimal}
use Rattle.text.proofs.Decimals.{decimal-length}
use Rattle.bristol_line.proofs.Pieces.{byte_more}
use Rattle.bristol_line.proofs.put_field.Goals as goal

pub bounds-bytes-end : goal.bounds-bytes-end
bounds-bytes-end c =
    omega (arith, c.put_number-end.ensures.value, decimal-length c.args.x)

pub overflow_add-result : goal.overflow_add-result
overflow_add-result c =
    omega (arith, c.put_number-end.ensures.value, decimal-length c.args.x)

pub returns : goal.returns
returns c =
    let end = c.put_number-end in
    let p = byte_more c.args.bytes.now _ (decimal c.args.x) c.args.at end.result c.args.behind (end.ensures.value, end.ensures.bytes_after) in
    record {
      upper_bound = omega (arith, end.ensures.value, decimal-length c.args.x);
      value = p.0;
      bytes_after = p.1;
    }
