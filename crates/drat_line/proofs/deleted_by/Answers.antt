-- `deleted_by` meets its contract: one constructor for each.
use mathlib.Core.Path.{sym, ap}
use Rattle.drat_line.specs.Lines.{deleted_by}
use Rattle.drat_line.proofs.deleted_by.Goals as goal

pub returns-in-Some : goal.returns-in-Some
returns-in-Some c = sym (ap deleted_by c.in-Some.is)
