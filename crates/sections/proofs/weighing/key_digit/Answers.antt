-- `key_digit` meets its contract: the test is the definition's, and the calls give its numbers.
use borrow.Author.Rules.{rules}
use mathlib.Core.Path.{◌∙◌}
use Prim.Native.Nat.{◌+◌, ◌*◌, ◌≤◌}
use native.Mathlib.Nat.{mul-le-mul}
use native.Mathlib.Omega.{arith}
use Rattle.sections.specs.Sections.{key_digit}
use Rattle.sections.proofs.InOrder.{if_digit_lem, no_digit}
use Rattle.sections.proofs.weighing.key_digit.Goals as goal
use Rattle.sections.proofs.weighing.key_digit.Goals.{After-digits_to}

-- the keys' digits before this one
digits-before : (c : After-digits_to) → c.args.a.m * (1 + c.args.d) ≤ 3825
digits-before c =
    let few : 1 + c.args.d ≤ 5 = omega (arith, c.if-a-d.false, c.requires.2) in
    mul-le-mul c.requires.1 few

pub returns-then-a-d : goal.returns-then-a-d
returns-then-a-d c =
    c.no_section.ensures ∙ no_digit c.args.a (key_digit c.args.a) c.args.d c.if-a-d.true

pub overflow_mul-result : goal.overflow_mul-result
overflow_mul-result c = search (rules, digits-before (goal.at.overflow_mul-result c).After-digits_to)

pub overflow_add-result-2 : goal.overflow_add-result-2
overflow_add-result-2 c = search (rules, digits-before (goal.at.overflow_add-result-2 c).After-digits_to)

pub returns : goal.returns
returns c =
    rw (c.digits_to.ensures.value, c.thresholds-k.ensures.value)
    (if_digit_lem c.args.a (key_digit c.args.a) c.args.d c.if-a-d.false)
