-- `accepted` meets its contract: at 2^32 wires and more every word names an earlier one.
use mathlib.Core.Path.{◌∙◌}
use native.Mathlib.Omega.{arith}
use Rattle.gates.proofs.Judging.{accepted_far}
use Rattle.gates.proofs.accepted.Goals as goal

pub returns-then-inputs-gt4294967296 : goal.returns-then-inputs-gt4294967296
returns-then-inputs-gt4294967296 c =
    c.all_gates.ensures ∙ accepted_far _ c.args.inputs c.args.gates.now (omega arith) (omega arith)
    (λ i. (c.shared_slice_known-1.given i).fits)
