-- `Dimensions::ceiling` meets its contract: both factors are small, so their product fits.
use mathlib.Core.Path.{ap}
use Prim.Native.Nat.{ℕ, ◌+◌, ◌*◌}
use native.Mathlib.Omega.{arith}
use Rattle.dimensions.proofs.Products.{product}
use Rattle.dimensions.proofs.Dimensions.ceiling.Goals as goal

pub overflow_mul-result-2 : goal.overflow_mul-result-2
overflow_mul-result-2 c = record {
  fits = omega (
    arith,
    product (64 * (c.rows.result + c.args.self.n + 1)) (c.args.self.n + 1)
        (omega arith) (omega arith),
  );
}

pub returns : goal.returns
returns c = ap (λ (m : ℕ). 64 * (m + c.args.self.n + 1) * (c.args.self.n + 1)) c.rows.ensures
