-- `thresholds` meets its contract: a shift is the quotient by a power of two.
use mathlib.Core.Path.{ap, sym, subst}
use Prim.Native.Nat.{ℕ, ◌*◌, ◌/◌, ◌^◌, ◌≤◌}
use native.Mathlib.Omega.{arith}
use Rattle.sections.proofs.DigitLaws.{thresholds-few}
use Rattle.sections.proofs.digits.thresholds.Goals as goal

pub returns : goal.returns
returns c =
    let e = ap (λ (x : ℕ). x / 2 ^ c.args.d) c.less.ensures in
    record {
      value = e;
      upper_bound = subst (λ (x : ℕ). (x ≤ 255) × (2 ^ c.args.d * x ≤ c.args.n)) (sym e)
          (thresholds-few c.args.n 0 c.requires.0 (omega arith) c.args.d);
    }
