-- `chain` meets its contract: the iterator starts at the first depth levels, and each turn takes the last of those that it still has.
use Rattle.std.proofs.Common.{sym, ◌∙◌, arith}
use Rattle.state.proofs.StateTests.{levels_of-reverse, chain_end, chain-stop, chain_on}
use Rattle.state.proofs.chain.Goals as goal

pub loop-level-init : goal.loop-level-init
loop-level-init c = rw (← levels_of-reverse c.args.depth c.args.levels (omega arith)) (cc)

pub returns-then-not-precedes : goal.returns-then-not-precedes
returns-then-not-precedes c =
    chain-stop _ _ _ _ _ _ c.in-Some.ensures.steps (sym c.precedes.ensures ∙ c.if-not-precedes.true) ∙ c.loop-level.invariant

pub loop-level-preserved : goal.loop-level-preserved
loop-level-preserved c =
    chain_on _ _ _ _ _ _ c.in-Some.ensures.steps (sym c.precedes.ensures ∙ c.if-not-precedes.false) ∙ c.loop-level.invariant

pub returns : goal.returns
returns c = chain_end _ _ _ _ c.in-None.ensures.steps.0 ∙ c.loop-level.invariant
