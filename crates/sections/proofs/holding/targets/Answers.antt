-- `targets` meets its contract: by what `power` and `less` give.
use Rattle.sections.proofs.holding.targets.Goals as goal

pub returns : goal.returns
returns c = rw (c.less.ensures, c.power-p.ensures.value)
