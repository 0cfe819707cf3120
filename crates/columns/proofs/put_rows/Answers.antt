-- `put_rows` meets its contract: after the loop the part of the table is the words of the rows.
use mathlib.Core.Path.{◌≡◌}
use mathlib.Core.List.{[]}
use Prim.Native.Nat.{ℕ, ◌/◌, ◌%◌}
use native.Mathlib.Omega.{arith}
use lib.ListN.{length, get_or}
use Rattle.std.proofs.Common.{length-take, length-drop}
use Rattle.squares.proofs.Tabulating.{length-tabulate, tabulated}
use Rattle.columns.proofs.Storing.{part_stored}
use Rattle.columns.proofs.put_rows.Goals as goal

pub returns : goal.returns
returns c =
    let a = c.args in
    let word : ℕ → ℕ = λ x. get_or (get_or a.rows (x % 2) []) (x / 2) 0 in
    let size : length c.loop-x.word-items ≡ a.k = omega (arith, length-take {A = ℕ}, length-drop {A = ℕ}) in
    part_stored a.table.now c.loop-x.word-items _ a.at _
    (tabulated word a.k c.loop-x.word-items size (λ j h. c.loop-x.invariant j (omega arith)))
    (omega (arith, length-tabulate word 0 a.k)) (omega arith)
