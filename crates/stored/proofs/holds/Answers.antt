-- `holds` meets its contract: an n that is too wide makes the definition false, and else the standing decides.
use mathlib.Core.Path.{sym}
use Rattle.stored.proofs.Holding.{wide_n, standing_decides}
use Rattle.stored.proofs.holds.Goals as goal

pub returns-then-words-gt255 : goal.returns-then-words-gt255
returns-then-words-gt255 c = sym (wide_n c.args.words c.if-words-gt255.true)

pub returns : goal.returns
returns c = sym (standing_decides c.args.words c.if-words-gt255.false)
