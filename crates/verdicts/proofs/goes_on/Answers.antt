-- `goes_on` meets its contract: by the standing.
use mathlib.Core.Path.{sym, ap}
use mathlib.Core.Bool.{false}
use lib.Dec.{ltb}
use Rattle.state.specs.declared.Standing.{Standing}
use Rattle.state.specs.State.{if_open}
use Rattle.verdicts.proofs.goes_on.Goals as goal

pub returns-in-Open : goal.returns-in-Open
returns-in-Open c = sym (ap (λ (st : Standing). if_open st (ltb c.args.count c.args.budget) false) c.in-Open.is)
