-- `Read::refused` meets its contract: its run is that of `Run::fresh`.
use mathlib.Core.Path.{ap}
use Rattle.std.specs.Prelude.{Err}
use Rattle.state.specs.declared.Run.{Run}
use Rattle.readback.proofs.Read.refused.Goals as goal

pub returns : goal.returns
returns c = ap (λ (x : Run). record { outcome = Err c.args.refusal; run = x }) c.fresh.ensures
