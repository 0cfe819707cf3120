-- `Run::fresh` meets its contract: the definition computes.
use mathlib.Core.Path.{refl}
use Rattle.state.specs.State.{run_of}
use Rattle.state.proofs.Run.fresh.Goals as goal

pub returns : goal.returns
unfolding run_of
returns c = refl
