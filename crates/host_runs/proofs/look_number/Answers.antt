-- `look_number` meets its contract: the arm's variable is the one to look at.
use mathlib.Core.Path.{sym, ap}
use Rattle.tables.specs.Rows.{look_number}
use Rattle.host_runs.proofs.look_number.Goals as goal

pub returns-in-Some : goal.returns-in-Some
returns-in-Some c = ap look_number (sym c.in-Some.is)
