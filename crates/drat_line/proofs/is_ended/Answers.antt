-- `is_ended` meets its contract: one constructor for each of the reader's.
use mathlib.Core.Path.{sym, ◌∙◌}
use Rattle.clauses.specs.Clauses.{Reading}
use Rattle.clauses.specs.First.{clauses_from}
use Rattle.drat_line.proofs.Reading.{end_told, read_told, unreadable_told}
use Rattle.drat_line.proofs.is_ended.Goals as goal
use Rattle.drat_line.proofs.is_ended.Goals.{After-read_clause-next}

-- the clauses that are left
abbrev left : After-read_clause-next → Reading
left c = let a = c.args in clauses_from a.n a.part.now a.at

pub returns-in-Read : goal.returns-in-Read
returns-in-Read c = sym (read_told (left (goal.at.returns-in-Read c).After-read_clause-next) _ _ _ (sym c.read_clause-next.ensures.value ∙ c.in-Read.is))

pub returns-in-End : goal.returns-in-End
returns-in-End c = sym (end_told (left (goal.at.returns-in-End c).After-read_clause-next) (sym c.read_clause-next.ensures.value ∙ c.in-End.is))

pub returns-in-Unreadable : goal.returns-in-Unreadable
returns-in-Unreadable c = sym (unreadable_told (left (goal.at.returns-in-Unreadable c).After-read_clause-next)
    (sym c.read_clause-next.ensures.value ∙ c.in-Unreadable.is))
