-- `old_row` meets its contract: each test leads to its case.
use mathlib.Core.Path.{◌∙◌}
use native.Mathlib.Omega.{arith}
use lib.Dec.{ltb, leb}
use borrow.Author.Tests.{ltb-true}
use Rattle.words.proofs.Truth.{and_l}
use Prim.Native.Nat.{◌+◌, ◌<◌}
use Rattle.late_indexed.proofs.Replacing.{old_left, old_right, old_none}
use Rattle.late_indexed.proofs.old_row.Goals as goal
use Rattle.late_indexed.proofs.old_row.Goals.{Then-left_rows-number, Then-number-left_rows}

-- a row's number is above 0, and a right row's above those of the left ones
left-number : (c : Then-number-left_rows) → 0 < c.args.number
left-number c =
    let s = c.args in
    ltb-true 0 s.number (and_l (ltb 0 s.number) (leb s.number s.d.left) c.if-number-left_rows.true)

right-number : (c : Then-left_rows-number) → c.args.d.left < c.args.number
right-number c =
    let s = c.args in
    ltb-true s.d.left s.number (and_l (ltb s.d.left s.number) (leb s.number (s.d.left + s.d.right)) c.if-left_rows-number.true)

pub overflow_sub-number : goal.overflow_sub-number
overflow_sub-number c = omega (arith, left-number c)

pub returns-then-number-left_rows : goal.returns-then-number-left_rows
returns-then-number-left_rows c =
    let s = c.args in
    c.row_at.ensures ∙ old_left s.d s.left.now s.right.now s.number c.if-number-left_rows.true

pub overflow_sub-number-then-left_rows-number : goal.overflow_sub-number-then-left_rows-number
overflow_sub-number-then-left_rows-number c = omega (arith, right-number c)

pub overflow_sub-number-then-left_rows-number-2 : goal.overflow_sub-number-then-left_rows-number-2
overflow_sub-number-then-left_rows-number-2 c = omega (arith, right-number c)

pub returns-then-left_rows-number : goal.returns-then-left_rows-number
returns-then-left_rows-number c =
    let s = c.args in
    c.row_at-then-left_rows-number.ensures ∙ old_right s.d s.left.now s.right.now s.number c.if-number-left_rows.false c.if-left_rows-number.true

pub returns : goal.returns
returns c =
    let s = c.args in
    old_none s.d s.left.now s.right.now s.number c.if-number-left_rows.false c.if-left_rows-number.false
