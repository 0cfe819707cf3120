-- `put_number` meets its contract: the digits of x are those of x / 10 and one more.
use Prim.Native.Nat.{◌/◌}
use native.Mathlib.Omega.{arith}
use Rattle.text.proofs.Decimals.{decimal-length}
use Rattle.bristol_line.proofs.Pieces.{number-digit, number_more}
use Rattle.bristol_line.proofs.+put_number.Goals as goal

pub returns-then-x-lt10 : goal.returns-then-x-lt10
returns-then-x-lt10 t c =
    let p = number-digit c.args.bytes.now c.args.x c.args.at c.if-x-lt10.true in
    record { value = p.0; bytes_after = p.1 }

pub bounds-bytes-last : goal.bounds-bytes-last
bounds-bytes-last t c = omega (arith, c.put_number-last.ensures.value, decimal-length (c.args.x / 10))

pub overflow_add-result-2 : goal.overflow_add-result-2
overflow_add-result-2 t c = omega (arith, c.put_number-last.ensures.value, decimal-length (c.args.x / 10))

pub returns : goal.returns
returns t c =
    let last = c.put_number-last in
    let p = number_more c.args.bytes.now _ c.args.x c.args.at last.result (omega arith) (omega arith) (last.ensures.value, last.ensures.bytes_after) in
    record { value = p.0; bytes_after = p.1 }
