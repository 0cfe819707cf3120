-- `digit` meets its contract: the test is the definition's, and the calls give its numbers.
use borrow.Author.Rules.{rules}
use mathlib.Core.Path.{◌∙◌}
use Prim.Native.Nat.{◌*◌, ◌≤◌}
use Rattle.sections.specs.Sections.{digit}
use Rattle.sections.proofs.InOrder.{if_digit_lem, no_digit}
use Rattle.sections.proofs.weighing.digit.Goals as goal
use Rattle.sections.proofs.weighing.digit.Goals.{After-digits_to}

-- no threshold is before the first variable
product : (c : After-digits_to) → c.power-p.result * c.thresholds-k.result ≤ c.args.a.n
product c = rw c.power-p.ensures.value c.thresholds-k.ensures.upper_bound.1

pub returns-then-a-d : goal.returns-then-a-d
returns-then-a-d c =
    c.no_section.ensures ∙ no_digit c.args.a (digit c.args.a) c.args.d c.if-a-d.true

pub overflow_mul-result : goal.overflow_mul-result
overflow_mul-result c = search (rules, product (goal.at.overflow_mul-result c).After-digits_to)

pub overflow_sub-result : goal.overflow_sub-result
overflow_sub-result c = product (goal.at.overflow_sub-result c).After-digits_to

pub returns : goal.returns
returns c =
    rw (c.digits_to.ensures.value, c.thresholds-k.ensures.value, c.power-p.ensures.value)
    (if_digit_lem c.args.a (digit c.args.a) c.args.d c.if-a-d.false)
