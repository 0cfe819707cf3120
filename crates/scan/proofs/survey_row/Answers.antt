-- `survey_row` meets its contract by that of `only`.
use Rattle.scan.proofs.survey_row.Goals as goal

pub returns : goal.returns
returns c = rw c.only-unit.ensures
