-- `try_out` meets its contract, which is that of the trial in the array: the array is as long as the trial asks.
use mathlib.Core.Path.{sym}
use Prim.Native.Nat.{ℕ}
use native.Mathlib.Omega.{arith}
use lib.ListN.{length-replicate}
use Rattle.evaluator.proofs.try_out.Goals as goal

pub slice_bounds-try_in-end : goal.slice_bounds-try_in-end
slice_bounds-try_in-end g c = sym (length-replicate {A = ℕ} g.row.ROOM 0)

pub try_in-requires : goal.try_in-requires
try_in-requires g c =
    record { gates_in_bounds = rw (length-replicate {A = ℕ} g.row.ROOM 0) c.requires.gates_len_bound; inputs_value = c.requires.inputs_value }

pub whole_as_slice-try_in : goal.whole_as_slice-try_in
whole_as_slice-try_in g c = omega (arith, c.requires.room)
