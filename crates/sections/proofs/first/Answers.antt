-- `first` meets its contract: each arm gives the section at its number.
use mathlib.Core.Path.{◌∙◌}
use Prim.Native.Nat.{◌+◌, ◌-◌, ◌≤◌}
use native.Mathlib.Omega.{arith}
use Rattle.std.proofs.Common.{rules}
use Rattle.sections.proofs.InOrder.{by_number, digit_at, key_digit-at, split_at}
use Rattle.sections.proofs.first.Goals as goal

pub returns-in-4-to-8 : goal.returns-in-4-to-8
returns-in-4-to-8 c =
    let k = c.args.k in
    let from : 4 ≤ k = search rules in
    by_number c.args.a _ k (4 + (k - 4)) (c.digit.ensures ∙ digit_at c.args.a (k - 4) (omega arith)) (omega arith)

pub returns-in-10-to-14 : goal.returns-in-10-to-14
returns-in-10-to-14 c =
    let k = c.args.k in
    let from : 10 ≤ k = search rules in
    by_number c.args.a _ k (10 + (k - 10)) (c.key_digit.ensures ∙ key_digit-at c.args.a (k - 10) (omega arith)) (omega arith)

pub returns-in-23-to-27 : goal.returns-in-23-to-27
returns-in-23-to-27 c =
    let k = c.args.k in
    let from : 23 ≤ k = search rules in
    by_number c.args.a _ k (23 + (k - 23)) (c.split.ensures ∙ split_at c.args.a (k - 23) (omega arith)) (omega arith)

pub returns-in_default : goal.returns-in_default
returns-in_default c =
    let k = c.args.k in
    let from : 39 ≤ k = search rules in
    by_number c.args.a _ k 39 c.next_depth.ensures (omega (arith, c.requires.1))
