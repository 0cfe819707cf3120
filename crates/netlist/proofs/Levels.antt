-- The bits of levels when one is added or removed by XOR at its number. By cases on whether the level is the last.
use mathlib.Core.Path.{◌≡◌, refl}
use mathlib.Core.Bool.{Bool, false, ◌&&◌}
use mathlib.Core.List.{List, [], ◌∷◌}
use Prim.Native.Nat.{ℕ, ◌≤◌}
use native.Mathlib.Omega.{arith}
use lib.Dec.{eqb}
use lib.ListN.{length}
use borrow.Author.Tests.{ne_eqb, eqb-true}
use Rattle.words.specs.Booleans.{◌⊕◌}
use Rattle.words.proofs.Truth.{on}
use Rattle.state.specs.declared.Level.{Level}
use Rattle.wires.specs.Layout.{on_level}
use Rattle.netlist.proofs.Chains.{xor_false, xor_self}

module _ (g : Level → Bool) where
  pub level-unused : (ls : List Level) (k : ℕ) → length ls ≤ k → on_level g ls k ≡ false
  unfolding on_level
  level-unused [] k h = refl
  level-unused (l ∷ ls) k h = rw (ne_eqb k (length ls) (λ e. omega arith)) (level-unused ls k (omega arith))

  pub level-added : (l : Level) (ls : List Level) (k : ℕ) → on_level g ls k ⊕ (eqb k (length ls) && g l) ≡ on_level g (l ∷ ls) k
  unfolding on_level
  level-added l ls k =
      on (eqb k (length ls))
      (λ e. let z : k ≡ length ls = eqb-true k (length ls) e in rw (e, level-unused ls k (omega arith)))
      (λ e. rw e (xor_false (on_level g ls k)))

  pub level-removed : (l : Level) (ls : List Level) (k : ℕ) → on_level g (l ∷ ls) k ⊕ (eqb k (length ls) && on_level g (l ∷ ls) k) ≡ on_level g ls k
  unfolding on_level
  level-removed l ls k =
      on (eqb k (length ls))
      (λ e. let z : k ≡ length ls = eqb-true k (length ls) e in rw (e, level-unused ls k (omega arith)) (xor_self (g l)))
      (λ e. rw e (xor_false (on_level g ls k)))
