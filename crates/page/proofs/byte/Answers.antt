-- `byte` meets its contract: past the end there is 0.
use mathlib.Core.Path.{sym}
use lib.ListN.{get_or-eq_default}
use Rattle.page.proofs.byte.Goals as goal

pub returns-else-at-page : goal.returns-else-at-page
returns-else-at-page c = sym (get_or-eq_default c.args.page.now 0 c.if-at-page.false)
