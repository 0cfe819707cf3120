-- `follow` meets its contract: the function of the rule gives what the rule makes of the run.
use Rattle.rules.proofs.follow.Goals as goal

pub returns-in-AllSatisfied : goal.returns-in-AllSatisfied
returns-in-AllSatisfied c = rw c.in-AllSatisfied.is c.satisfy.ensures

pub returns-in-Conflict : goal.returns-in-Conflict
returns-in-Conflict c = rw c.in-Conflict.is c.back.ensures

pub returns-in-Unit : goal.returns-in-Unit
returns-in-Unit c = rw c.in-Unit.is c.assign.ensures

pub returns-in-Choice : goal.returns-in-Choice
returns-in-Choice c = rw c.in-Choice.is c.choose.ensures
