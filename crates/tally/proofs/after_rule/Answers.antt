-- `after_rule` meets its contract: by the rule.
use Rattle.tally.proofs.after_rule.Goals as goal

pub returns-in-AllSatisfied : goal.returns-in-AllSatisfied
returns-in-AllSatisfied c = rw c.in-AllSatisfied.is

pub returns-in-Conflict : goal.returns-in-Conflict
returns-in-Conflict c = rw c.in-Conflict.is c.survey.ensures

pub returns-in-Unit : goal.returns-in-Unit
returns-in-Unit c = rw c.in-Unit.is c.set_literal.ensures

pub returns-in-Choice : goal.returns-in-Choice
returns-in-Choice c = rw c.in-Choice.is c.set_literal-in-Choice.ensures
