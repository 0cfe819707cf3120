-- `replaceable` meets its contract: an owned number has its place in the left table or in the right one.
use mathlib.Core.Path.{◌≡◌, sym, ◌∙◌}
use mathlib.Core.Bool.{true}
use native.Mathlib.Omega.{arith}
use Rattle.late.specs.Replacement.{owns}
use Rattle.late.proofs.Rows.{owned-number}
use Rattle.late.proofs.Checks.{read_none, read_left, read_right}
use Rattle.late.proofs.replaceable.Goals as goal
use Rattle.late.proofs.replaceable.Goals.{Else-not-owns}

-- the row is the station's own
own : (c : Else-not-owns) → owns c.args.d c.args.station c.args.number ≡ true
own c = sym c.owns.ensures ∙ c.if-not-owns.false

pub returns-then-not-owns : goal.returns-then-not-owns
returns-then-not-owns c =
    read_none c.args.d c.args.left.now c.args.right.now c.args.station c.args.number
    (sym c.owns.ensures ∙ c.if-not-owns.true)

pub overflow_sub-number : goal.overflow_sub-number
overflow_sub-number c =
    omega (arith, (owned-number c.args.d c.args.station c.args.number (own (goal.at.overflow_sub-number c).Else-not-owns)).0)

pub returns-then-number-left_rows : goal.returns-then-number-left_rows
returns-then-number-left_rows c =
    c.is_padding.ensures ∙ read_left c.args.d c.args.left.now c.args.right.now c.args.station c.args.number
    (own (goal.at.returns-then-number-left_rows c).Else-not-owns) c.if-number-left_rows.true

pub returns : goal.returns
returns c =
    c.is_padding-2.ensures ∙ read_right c.args.d c.args.left.now c.args.right.now c.args.station c.args.number
    (own (goal.at.returns c).Else-not-owns) c.if-number-left_rows.false
