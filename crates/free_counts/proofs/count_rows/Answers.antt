-- `count_rows` meets its contract: after the loop each byte of the part is its row's count.
use mathlib.Core.Path.{◌≡◌}
use Prim.Native.Nat.{ℕ}
use native.Mathlib.Omega.{arith}
use lib.ListN.{length}
use Rattle.std.proofs.Common.{length-take, length-drop}
use Rattle.free_counts.proofs.Counting.{counted-part}
use Rattle.free_counts.proofs.count_rows.Goals as goal

pub returns-clause-counts_after : goal.returns-clause-counts_after
returns-clause-counts_after c =
    let size : length c.loop-i.count-items ≡ c.args.rows = omega (arith, length-take {A = ℕ}, length-drop {A = ℕ}) in
    counted-part _ _ _ _ _ _ _ _ (omega arith) size c.requires (λ k h. c.loop-i.invariant k (omega arith))
