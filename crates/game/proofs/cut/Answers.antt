-- `cut` meets its contract: one constructor for each of the scan's rules.
use mathlib.Core.Path.{sym, ap, ◌∙◌}
use Rattle.game.specs.Cuts.{cut_of}
use Rattle.game.proofs.cut.Goals as goal

pub returns-in-AllSatisfied : goal.returns-in-AllSatisfied
returns-in-AllSatisfied c = ap cut_of (sym c.in-AllSatisfied.is ∙ c.rule_at.ensures)

pub returns-in-Conflict : goal.returns-in-Conflict
returns-in-Conflict c = ap cut_of (sym c.in-Conflict.is ∙ c.rule_at.ensures)

pub returns-in-Unit : goal.returns-in-Unit
returns-in-Unit c = ap cut_of (sym c.in-Unit.is ∙ c.rule_at.ensures)

pub returns-in-Choice : goal.returns-in-Choice
returns-in-Choice c = ap cut_of (sym c.in-Choice.is ∙ c.rule_at.ensures)
