-- `standing_of` meets its contract: each arm's number decides the definition's tests.
use mathlib.Core.Path.{sym, ap}
use Rattle.stored.specs.Words.{standing_of}
use Rattle.stored.proofs.standing_of.Goals as goal

pub returns-in-1 : goal.returns-in-1
returns-in-1 c = sym (ap standing_of c.in-1.is)

pub returns-in-2 : goal.returns-in-2
returns-in-2 c = sym (ap standing_of c.in-2.is)
