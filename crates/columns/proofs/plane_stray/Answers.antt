-- `plane_stray` meets its contract: two runs of words side by side, each under one limit.
use mathlib.Core.Path.{◌≡◌, sym, ap, ap₂, ◌∙◌, subst}
use mathlib.Core.Bool.{Bool, not, ◌||◌}
use Prim.Native.Nat.{ℕ, ◌+◌, ◌-◌, ◌*◌, ◌/◌, ◌≤◌}
use native.Mathlib.Omega.{arith}
use lib.ListN.{take, drop}
use Rattle.tables.specs.Acceptance.{all_below}
use Rattle.columns.proofs.Strays.{held-most, plane_strays}
use Rattle.columns.proofs.plane_stray.Goals as goal

pub overflow_cast-left : goal.overflow_cast-left
overflow_cast-left c =
    let a = c.args in
    let small : c.share-left.result ≤ 32 = subst (λ (x : ℕ). x ≤ 32) (sym c.share-left.ensures) (held-most a.n a.rows a.planes.now (a.p / 2)) in
    omega arith

pub returns : goal.returns
returns c =
    let a = c.args in
    let l = a.planes.now in
    let front : (32 * a.p + a.n) - 32 * a.p ≡ a.n = omega arith in
    let rest : (32 * a.p + 32) - (32 * a.p + a.n) ≡ 32 - a.n = omega arith in
    ap₂ (λ (x y : Bool). not x || not y)
    (c.all_below.ensures ∙ ap (λ (k : ℕ). all_below c.share-left.result (take k (drop (32 * a.p) l))) front)
    (c.all_below-2.ensures ∙ ap (λ (k : ℕ). all_below 0 (take k (drop (32 * a.p + a.n) l))) rest)
    ∙ plane_strays a.n a.rows l a.p c.requires.0 c.requires.3 c.share-left.result c.share-left.ensures
