-- `tell_conflict` meets its contract: a run of depth 0 has no used level, and else the last of them comes first.
use mathlib.Core.Path.{◌≡◌, refl, ap}
use mathlib.Core.List.{List}
use Prim.Native.Nat.{ℕ, zero, suc, ◌-◌}
use native.Mathlib.Omega.{arith}
use lib.ListN.{get_or}
use Rattle.state.specs.declared.Level.{Level}
use Rattle.state.specs.State.{levels_of, none}
use Rattle.explained.specs.declared.Told.TheVariants.{ConflictWithLevel}
use Rattle.explained.specs.Explanation.{told_back}
use Rattle.explained.proofs.tell_conflict.Goals as goal

last-level : (row depth : ℕ) (levels : List Level) → (depth ≡ 0 → ⊥) → ConflictWithLevel row (get_or levels (depth - 1) none).chosen
    ≡ told_back row (levels_of depth levels)
last-level row zero levels h = absurd (h refl)
last-level row (suc d) levels h = let e : suc d - 1 ≡ d = omega arith in ap (λ (k : ℕ). ConflictWithLevel row (get_or levels k none).chosen) e

pub returns-then-depth-eq0 : goal.returns-then-depth-eq0
returns-then-depth-eq0 c = rw c.if-depth-eq0.true

pub returns : goal.returns
returns c = let a = c.args in last-level a.row a.run.depth a.run.levels c.if-depth-eq0.false
