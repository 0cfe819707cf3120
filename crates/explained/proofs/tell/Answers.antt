-- `tell` meets its contract: the rule found is the rows', and each case tells what the definition does.
use mathlib.Core.List.{List, ◌++◌}
use Rattle.words.specs.declared.Row.{Row}
use Rattle.scan.specs.Rules.{rows_of_words}
use Rattle.state.specs.State.{state_of}
use Rattle.explained.proofs.Telling.{tells-satisfied, tells_conflict, tells-unit, tells-choice}
use Rattle.explained.proofs.tell.Goals as goal
use Rattle.explained.proofs.tell.Goals.{Start}

-- the rows there
abbrev rows : Start → List Row
rows s = rows_of_words s.args.tables.left.now ++ (rows_of_words s.args.tables.right.now ++ rows_of_words s.args.tables.public.now)

pub returns-in-AllSatisfied : goal.returns-in-AllSatisfied
returns-in-AllSatisfied c =
    tells-satisfied 32 (rows (goal.at.returns-in-AllSatisfied c).Start) (state_of c.args.run) c.find_rule-rule.result _ c.find_rule-rule.ensures.value
    c.in-AllSatisfied.is

pub returns-in-Conflict : goal.returns-in-Conflict
returns-in-Conflict c =
    tells_conflict 32 (rows (goal.at.returns-in-Conflict c).Start) (state_of c.args.run) c.find_rule-rule.result _ c.find_rule-rule.ensures.value
    c.in-Conflict.is
    c.lowest_row-row.result c.lowest_row-row.ensures c.tell_conflict.result c.tell_conflict.ensures

pub returns-in-Unit : goal.returns-in-Unit
returns-in-Unit c =
    tells-unit 32 (rows (goal.at.returns-in-Unit c).Start) (state_of c.args.run) c.find_rule-rule.result _ c.find_rule-rule.ensures.value c.in-Unit.variable
    c.in-Unit.value c.in-Unit.is
    c.lowest_row-row-in-Unit.result c.lowest_row-row-in-Unit.ensures

pub returns-in-Choice : goal.returns-in-Choice
returns-in-Choice c =
    tells-choice 32 (rows (goal.at.returns-in-Choice c).Start) (state_of c.args.run) c.find_rule-rule.result _ c.find_rule-rule.ensures.value
    c.in-Choice.variable c.in-Choice.is
