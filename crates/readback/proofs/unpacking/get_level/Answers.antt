-- `get_level` meets its contract: its parts are those of its callees.
use native.Mathlib.Omega.{arith}
use Rattle.readback.proofs.unpacking.get_level.Goals as goal

pub overflow_cast-result : goal.overflow_cast-result
overflow_cast-result c = omega (arith, c.get_one-chosen.ensures.upper_bound)

pub returns : goal.returns
returns c = λ i. record { t = c.get_set.ensures i; f = c.get_set-2.ensures i; chosen = c.get_one-chosen.ensures.value i }
