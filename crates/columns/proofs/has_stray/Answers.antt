-- `has_stray` meets its contract: one plane has a stray bit, or none.
use mathlib.Core.Path.{◌≡◌, refl}
use mathlib.Core.Bool.{true, false}
use Prim.Native.Nat.{ℕ, ◌*◌, ◌+◌, ◌/◌}
use native.Mathlib.Omega.{arith}
use borrow.Author.Rules.{rules}
use borrow.Author.Tests.{tests}
use Rattle.std.proofs.lemmas.Iterator.{YieldsList-from_range, cases_from_any}
use Rattle.columns.proofs.Strays.{plane_has, any-planes}
use Rattle.columns.proofs.has_stray.Goals as goal

pub returns : goal.returns
returns c =
    let a = c.args in
    let k : ℕ = 2 * ((a.rows + 31) / 32) in
    let has = plane_has a.n a.rows a.planes.now in
    any-planes a.n a.rows a.planes.now c.any.result k refl
    (cases_from_any _ _ _ (λ p. has p ≡ true) (λ p. has p ≡ false) c.any.ensures.ran (YieldsList-from_range 0 k k (search rules) (omega arith))
    (λ p q k. search (rules, tests)) (λ p q k. search (rules, tests)))
