-- `bye` meets its contract: what `less` gives is m - 1.
use Rattle.sections.proofs.choosing.bye.Goals as goal

pub returns : goal.returns
returns c = rw c.less.ensures
