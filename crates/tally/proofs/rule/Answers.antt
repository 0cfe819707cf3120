-- `rule` meets its contract: the first of the four that applies.
use Rattle.tally.proofs.RulingLaws.{says-satisfied, says_conflict, says-forced, says-chosen}
use Rattle.tally.proofs.rule.Goals as goal

pub returns-then-tally-eq0 : goal.returns-then-tally-eq0
returns-then-tally-eq0 c = says-satisfied _ _ _ _ c.if-tally-eq0.true

pub returns-then-tally : goal.returns-then-tally
returns-then-tally c = says_conflict _ _ _ _ c.if-tally-eq0.false c.if-tally.true

pub returns-then-forced-ne0 : goal.returns-then-forced-ne0
returns-then-forced-ne0 c =
    says-forced _ _ _ _ c.if-tally-eq0.false c.if-tally.false c.if-forced-ne0.true _ _ c.lowest-variable.ensures c.bit.ensures

pub returns : goal.returns
returns c =
    says-chosen _ _ _ _ c.if-tally-eq0.false c.if-tally.false c.if-forced-ne0.false _ c.chosen.ensures
