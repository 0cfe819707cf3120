-- `check_limits` meets its contract: each test is the definition's, and what passes it fits a byte.
use mathlib.Core.Path.{◌≡◌, sym, ◌∙◌}
use mathlib.Core.Bool.{false}
use native.Mathlib.Omega.{arith}
use Rattle.dimensions.specs.Sizes.{most_variables, most_rows}
use Rattle.header.specs.Header.{beyond}
use Rattle.header.proofs.Limits.{within}
use Rattle.header.proofs.check_limits.Goals as goal
use Rattle.header.proofs.check_limits.Goals.{Else-is_beyond, Else-is_beyond-2}

-- what is passed is not beyond its limits
n_passed : (c : Else-is_beyond) → beyond 1 most_variables c.args.s c.args.v ≡ false
n_passed c = sym c.is_beyond.ensures ∙ c.if-is_beyond.false

m-passed : (c : Else-is_beyond-2) → let a = c.args in beyond a.least most_rows a.t a.w ≡ false
m-passed c = sym c.is_beyond-2.ensures ∙ c.if-is_beyond-2.false

pub returns-then-is_beyond : goal.returns-then-is_beyond
returns-then-is_beyond c = rw (sym c.is_beyond.ensures ∙ c.if-is_beyond.true)

pub returns-then-is_beyond-2 : goal.returns-then-is_beyond-2
returns-then-is_beyond-2 c = rw (n_passed (goal.at.returns-then-is_beyond-2 c).Else-is_beyond, sym c.is_beyond-2.ensures ∙ c.if-is_beyond-2.true)

pub overflow_cast-n : goal.overflow_cast-n
overflow_cast-n c = let a = c.args in omega (arith, (within 1 most_variables a.s a.v (n_passed (goal.at.overflow_cast-n c).Else-is_beyond)).1)

pub overflow_cast-m : goal.overflow_cast-m
overflow_cast-m c = let a = c.args in omega (arith, (within a.least most_rows a.t a.w (m-passed c)).1)

pub returns : goal.returns
returns c = rw (n_passed (goal.at.returns (c)).Else-is_beyond, m-passed c)
