-- `split` meets its contract: the test is the definition's, and `power` gives 2^d.
use mathlib.Core.Path.{◌≡◌, ◌∙◌}
use Prim.Native.Nat.{suc, ◌+◌}
use native.Mathlib.Omega.{arith}
use Rattle.sections.specs.Sections.{split}
use Rattle.sections.proofs.InOrder.{if_digit_lem, no_digit}
use Rattle.sections.proofs.choosing.split.Goals as goal

pub returns-then-a-d : goal.returns-then-a-d
returns-then-a-d c =
    c.no_section.ensures ∙ no_digit c.args.a (split c.args.a) c.args.d c.if-a-d.true

pub returns : goal.returns
returns c =
    let next : 1 + c.args.d ≡ suc c.args.d = omega arith in
    rw (c.power-p.ensures.value, next) (if_digit_lem c.args.a (split c.args.a) c.args.d c.if-a-d.false)
