-- `put_set` meets its contract: after the loop each byte of the part is its wire's.
use mathlib.Core.Path.{◌≡◌}
use Prim.Native.Nat.{ℕ}
use native.Mathlib.Omega.{arith}
use lib.ListN.{length}
use Rattle.std.proofs.Common.{length-take, length-drop}
use Rattle.words.specs.Sets.{bit}
use Rattle.wires.proofs.Stores.{stored-part}
use Rattle.wires.proofs.packing.put_set.Goals as goal

pub returns-clause-bytes_after : goal.returns-clause-bytes_after
returns-clause-bytes_after c =
    let size : length c.loop-i.wire-items ≡ c.args.n = omega (arith, length-take {A = ℕ}, length-drop {A = ℕ}) in
    stored-part (bit c.args.word) c.args.n _ _ _ _ (omega arith) size (omega arith) (λ j h. c.loop-i.invariant j (omega arith))
