-- `find_rule` meets its contract: the survey of all tables' rows, one table after the other, gives the rule, and each way out reads it off.
use mathlib.Core.Path.{◌≡◌, ◌∙◌}
use mathlib.Core.List.{[], ◌++◌}
use Rattle.scan.specs.Rules.{rows_of_words, rule}
use Rattle.scan.specs.Surveys.{rule_after}
use Rattle.scan.proofs.RuleOfSurvey.{none, adds_more, rule_of_all, says_conflict, says-satisfied, says-unit, says-choice}
use Rattle.scan.proofs.FirstRule.{with_number}
use Rattle.scan.proofs.find_rule.Goals as goal
use Rattle.scan.proofs.find_rule.Goals.{After-survey_rows-found}

-- after all tables
surveyed : (c : After-survey_rows-found) → let a = c.args in
    rule_after c.survey_rows-found.result [] a.t a.f
    ≡ rule 32 (rows_of_words a.tables.left.now ++ (rows_of_words a.tables.right.now ++ rows_of_words a.tables.public.now)) a.t a.f
surveyed c =
    let a = c.args in
    let first = c.survey_rows-first in
    let second = c.survey_rows-second in
    let found = c.survey_rows-found in
    let rest = rows_of_words a.tables.right.now ++ rows_of_words a.tables.public.now in
    rule_of_all a.t a.f (rows_of_words a.tables.left.now ++ rest) found.result
    (adds_more a.t a.f (rows_of_words a.tables.left.now) rest none first.result found.result first.ensures
    (adds_more a.t a.f (rows_of_words a.tables.right.now) (rows_of_words a.tables.public.now) first.result second.result found.result
    second.ensures found.ensures))

pub returns-then-conflict : goal.returns-then-conflict
returns-then-conflict c =
    let proved = with_number 32 _ _ _ _ (says_conflict c.survey_rows-found.result _ _ [] c.if-conflict.true
    ∙ surveyed (goal.at.returns-then-conflict c).After-survey_rows-found) in
    record { value = proved.0; result_value = proved.1 }

pub returns-then-free-eq0 : goal.returns-then-free-eq0
returns-then-free-eq0 c =
    let proved = with_number 32 _ _ _ _ (says-satisfied c.survey_rows-found.result _ _ c.if-conflict.false c.if-free-eq0.true
    ∙ surveyed (goal.at.returns-then-free-eq0 c).After-survey_rows-found) in
    record { value = proved.0; result_value = proved.1 }

pub returns-then-forced-ne0 : goal.returns-then-forced-ne0
returns-then-forced-ne0 c =
    let proved = with_number 32 _ _ _ _ (rw (c.bit.ensures, c.lowest-variable.ensures)
    (says-unit c.survey_rows-found.result _ _ c.if-conflict.false c.if-free-eq0.false c.if-forced-ne0.true
    ∙ surveyed (goal.at.returns-then-forced-ne0 c).After-survey_rows-found)) in
    record { value = proved.0; result_value = proved.1 }

pub returns : goal.returns
returns c =
    let proved = with_number 32 _ _ _ _ (rw c.lowest.ensures
    (says-choice c.survey_rows-found.result _ _ c.if-conflict.false c.if-free-eq0.false c.if-forced-ne0.false
    ∙ surveyed (goal.at.returns c).After-survey_rows-found)) in
    record { value = proved.0; result_value = proved.1 }
