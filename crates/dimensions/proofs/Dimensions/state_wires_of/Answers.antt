-- `Dimensions::state_wires_of` meets its contract: n is small, so its square fits.
use Prim.Native.Nat.{◌*◌}
use native.Mathlib.Omega.{arith}
use Rattle.dimensions.proofs.Products.{product}
use Rattle.dimensions.proofs.Dimensions.state_wires_of.Goals as goal

pub overflow_mul-result-2 : goal.overflow_mul-result-2
overflow_mul-result-2 c = record { fits = omega (arith, product (3 * c.args.n) c.args.n (omega arith) (omega arith)) }

pub overflow_add-result : goal.overflow_add-result
overflow_add-result c = record { fits = omega (arith, product (3 * c.args.n) c.args.n (omega arith) (omega arith)) }

pub overflow_add-result-2 : goal.overflow_add-result-2
overflow_add-result-2 c = record { fits = omega (arith, product (3 * c.args.n) c.args.n (omega arith) (omega arith)) }
