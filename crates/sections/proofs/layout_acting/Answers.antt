-- `layout_acting` meets its contract: `power` gives 2^b.
use native.Mathlib.Omega.{arith}
use Rattle.sections.proofs.layout_acting.Goals as goal

pub returns : goal.returns
returns c =
    record { value = rw c.power.ensures.value; outputs_bound = omega arith }
