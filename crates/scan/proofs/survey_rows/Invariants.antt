-- `survey_rows` meets its contract. The loop's invariant: the survey found and the rows left give the rule that the survey at the start and all the rows give.
use Rattle.std.proofs.Common.{length, ◌/◌}
use Rattle.scan.proofs.SurveyLaws.{SameRule}
use Rattle.scan.proofs.survey_rows.Given as goal

abbrev pub invariant-loop-positive : goal.invariant-loop-positive
invariant-loop-positive l = SameRule l.t l.f l.rows (length l.rows / 2) l.initial.found l.positive-index l.found
