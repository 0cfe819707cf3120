-- `weigh` meets its contract: from nothing, the left table's rows, then the right's, then the public ones.
use Prim.Native.Nat.{◌/◌}
use native.Mathlib.Omega.{arith}
use lib.ListN.{length, replicate, get_or-replicate}
use lib.Ieee.{nan, binary64, of_bits}
use Rattle.weighted.proofs.Weighing.{weigh_all}
use Rattle.weighted.proofs.weights.weigh.Goals as goal

pub returns : goal.returns
returns c =
    let a = c.args in
    weigh_all a.t a.f a.tables.left.now a.tables.right.now a.tables.public.now (length a.tables.left.now / 2) (length a.tables.right.now / 2)
    (length a.tables.public.now / 2) (omega arith) (omega arith) (omega arith) (replicate 32 (of_bits binary64 0)) _ _ _
    (λ i b. get_or-replicate 32 i (of_bits binary64 0) nan b) c.weigh_rows.ensures c.weigh_rows-2.ensures c.weigh_rows-3.ensures
