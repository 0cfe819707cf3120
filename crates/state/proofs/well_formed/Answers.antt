-- `well_formed` meets its contract: each test that fails makes the definition false, and the unused levels decide where all hold.
use mathlib.Core.Path.{◌≡◌, sym, ◌∙◌}
use mathlib.Core.Bool.{Bool, true, false}
use native.Mathlib.Omega.{arith}
use Rattle.dimensions.specs.Sizes.{outside}
use Rattle.dimensions.proofs.Limits.{most}
use Rattle.state.proofs.StateTests.{no_variables, not-sets, too_deep, not_linked, rest_decides}
use Rattle.state.proofs.well_formed.Goals as goal
use Rattle.state.proofs.well_formed.Goals.{After-variables_outside}

-- what that test says of n
tested : (c : After-variables_outside) (b : Bool) → c.variables_outside.result ≡ b → outside 32 c.args.run.n ≡ b
tested c b e = sym c.variables_outside.ensures ∙ e

pub returns-then-variables_outside : goal.returns-then-variables_outside
returns-then-variables_outside c = no_variables _ (tested (goal.at.returns-then-variables_outside c).After-variables_outside true c.if-variables_outside.true)

pub returns-then-not-sets : goal.returns-then-not-sets
returns-then-not-sets c =
    not-sets _ (tested (goal.at.returns-then-not-sets c).After-variables_outside false c.if-variables_outside.false) (sym c.sets.ensures ∙ c.if-not-sets.true)

pub returns-then-run-depth : goal.returns-then-run-depth
returns-then-run-depth c =
    too_deep _ (tested (goal.at.returns-then-run-depth c).After-variables_outside false c.if-variables_outside.false) (sym c.sets.ensures ∙ c.if-not-sets.false)
    c.if-run-depth.true

pub chain-requires : goal.chain-requires
chain-requires c =
    omega (arith, most 32 c.args.run.n (tested (goal.at.chain-requires c).After-variables_outside false c.if-variables_outside.false), c.if-run-depth.false)

pub returns-then-not-chain : goal.returns-then-not-chain
returns-then-not-chain c =
    not_linked _ (tested (goal.at.returns-then-not-chain c).After-variables_outside false c.if-variables_outside.false)
    (sym c.sets.ensures ∙ c.if-not-sets.false)
    c.if-run-depth.false (sym c.chain.ensures ∙ c.if-not-chain.true)

pub returns : goal.returns
returns c =
    c.unused.ensures
    ∙ rest_decides _ (tested (goal.at.returns c).After-variables_outside false c.if-variables_outside.false) (sym c.sets.ensures ∙ c.if-not-sets.false)
    c.if-run-depth.false (sym c.chain.ensures ∙ c.if-not-chain.false)
