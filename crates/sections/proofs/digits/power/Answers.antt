-- `power` meets its contract: below 32 a shifted 1 loses nothing.
use mathlib.Core.Path.{◌∙◌}
use Prim.Native.Nat.{◌^◌}
use native.Mathlib.Nat.{one-mul}
use native.Mathlib.Omega.{arith}
use lib.Dec.{lit<}
use lib.Pow.{shl_exact}
use Rattle.sections.proofs.DigitLaws.{power_few}
use Rattle.sections.proofs.digits.power.Goals as goal

pub returns : goal.returns
returns c =
    let d = c.args.d in
    let e = shl_exact {a = 1} 1 d 32 (lit< tt) (omega arith) ∙ one-mul (2 ^ d) in
    record { value = e; upper_bound = omega (arith, e, power_few d c.requires) }
