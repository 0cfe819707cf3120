-- `Dimensions::input_wires` meets its contract: the factors are small, so products and sum fit.
use mathlib.Core.Path.{ap₂}
use Prim.Native.Nat.{ℕ, ◌+◌, ◌*◌}
use native.Mathlib.Omega.{arith}
use Rattle.dimensions.proofs.Products.{product}
use Rattle.dimensions.proofs.Dimensions.input_wires.Goals as goal

pub overflow_mul-result-2 : goal.overflow_mul-result-2
overflow_mul-result-2 c = record { fits = omega (arith, product (2 * c.args.self.n) c.rows.result (omega arith) (omega arith)) }

pub overflow_add-result : goal.overflow_add-result
overflow_add-result c =
    let n = c.args.self.n in
    record { fits = omega (arith, product (2 * n) c.rows.result (omega arith) (omega arith), product (3 * n) n (omega arith) (omega arith)) }

pub returns : goal.returns
returns c = ap₂ (λ (m s : ℕ). 2 * c.args.self.n * m + s) c.rows.ensures c.state_wires.ensures
