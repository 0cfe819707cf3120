-- `decide` meets its contract: one branch for each of the definition's.
use Rattle.game.proofs.decide.Goals as goal

pub returns-then-first-second : goal.returns-then-first-second
returns-then-first-second c = rw (c.if-universal.true, c.if-first-second.true)

pub returns-then-universal : goal.returns-then-universal
returns-then-universal c = rw (c.if-universal.true, c.if-first-second.false)

pub returns-then-first-second-2 : goal.returns-then-first-second-2
returns-then-first-second-2 c = rw (c.if-universal.false, c.if-first-second-2.true)

pub returns : goal.returns
returns c = rw (c.if-universal.false, c.if-first-second-2.false)
