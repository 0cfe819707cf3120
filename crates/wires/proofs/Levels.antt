-- What is said of a level by its number: of a list whose last level comes first, and of a run's array, whose wires are those of its list. By cases on whether
-- the level is the last, and by induction on the depth.
use mathlib.Core.Path.{◌≡◌, refl, sym, ap₂, ◌∙◌}
use mathlib.Core.Bool.{Bool, true, false, ◌&&◌, cond}
use mathlib.Core.List.{List, [], ◌∷◌, ◌++◌}
use Prim.Native.Nat.{ℕ, zero, suc, ◌+◌, ◌≤◌, ◌<◌}
use native.Mathlib.Numerals.{add-one}
use native.Mathlib.Omega.{arith}
use lib.Dec.{eqb, ltb, leb-suc-zero}
use lib.ListN.{length, get_or}
use borrow.Author.Tests.{lt-ltb, le-ltb, ltb-true, ltb-false, eq-eqb, eqb-true, eqb-false, ne_eqb}
use Rattle.words.specs.Sets.{bit}
use Rattle.words.proofs.Truth.{on}
use Rattle.words.proofs.Bits.{bit-zero}
use Rattle.state.specs.declared.Level.{Level}
use Rattle.state.specs.declared.Run.{Run}
use Rattle.state.specs.State.{none, levels_of, state_of, is_satisfied}
use Rattle.state.proofs.HeldRun.{length-levels}
use Rattle.wires.specs.Layout.{upto, on_level, is_refuted, state_bits}
use Rattle.wires.specs.Levels.{level_bits, level_in, levels_bits}
use Rattle.wires.proofs.Series.{upto_cong, joined_cong}

-- ---- in a list

-- the last level comes first in the list
pub level-last : (g : Level → Bool) (x : Level) (xs : List Level) → on_level g (x ∷ xs) (length xs) ≡ g x
unfolding on_level
level-last g x xs = rw (eq-eqb (length xs) (length xs) refl)

-- the others are those of the list without it
pub level_older : (g : Level → Bool) (x : Level) (xs : List Level) (l : ℕ) → l < length xs → on_level g (x ∷ xs) l ≡ on_level g xs l
unfolding on_level
level_older g x xs l h = rw (ne_eqb l (length xs) (λ e. absurd (omega arith)))

-- ---- in the array

below_next : (l d : ℕ) → eqb l d ≡ false → ltb l (suc d) ≡ ltb l d
below_next l d e =
    on (ltb l d)
    (λ h. let z = ltb-true l d h in lt-ltb l (suc d) (omega arith) ∙ sym h)
    (λ h. let z = ltb-false l d h in let y : l ≡ d → ⊥ = eqb-false l d e in le-ltb l (suc d) (above (omega arith) y) ∙ sym h)
  where
    above : d ≤ l → (l ≡ d → ⊥) → suc d ≤ l
    above h y = on (ltb d l) (λ q. ltb-true d l q) (λ q. absurd (y (omega (arith, ltb-false d l q))))

-- what is said of a level of the list is said of the array's where it is used
on_levels : (g : Level → Bool) (d : ℕ) (levels : List Level) (l : ℕ) → on_level g (levels_of d levels) l ≡ ltb l d && g (get_or levels l none)
unfolding on_level
on_levels g zero levels l = rw leb-suc-zero
on_levels g (suc d) levels l =
    rw (length-levels d levels)
    (on (eqb l d)
    (λ e. rw (e, eqb-true l d e, lt-ltb d (suc d) (omega arith)))
    (λ e. rw (e, below_next l d e) (on_levels g d levels l)))

used : (b : Bool) (g : Level → Bool) (x y : Level) → g y ≡ false → b && g x ≡ g (cond b x y)
used true g x y h = refl
used false g x y h = sym h

module _ (n : ℕ) (levels : List Level) (d l : ℕ) where
  abbrev says : (Level → Bool) → Bool
  says g = on_level g (levels_of d levels) l

  at_level : (g : Level → Bool) → g (record { t = 0; f = 0; chosen = n }) ≡ false → says g ≡ g (level_in n levels d l)
  at_level g h = on_levels g d levels l ∙ used (ltb l d) g (get_or levels l none) _ h

  level_group : upto (λ i. says (λ x. bit x.t i)) n ++ (upto (λ i. says (λ x. bit x.f i)) n ++ upto (λ i. says (λ x. eqb i x.chosen)) n)
      ≡ level_bits n (level_in n levels d l)
  level_group =
      ap₂ (λ (x y : List Bool). x ++ y) (upto_cong _ _ n (λ i h. at_level (λ x. bit x.t i) (bit-zero i)))
      (ap₂ (λ (x y : List Bool). x ++ y) (upto_cong _ _ n (λ i h. at_level (λ x. bit x.f i) (bit-zero i)))
      (upto_cong _ _ n (λ i h. at_level (λ x. eqb i x.chosen) (ne_eqb i n (λ e. absurd (omega arith))))))

-- a run's state, part by part as it is written
pub state_parts : (n : ℕ) (run : Run)
    → upto (bit run.t) n ++ (upto (bit run.f) n ++ (upto (λ k. eqb k run.depth) (n + 1)
    ++ (levels_bits n run.levels run.depth n ++ (is_satisfied run.standing ∷ (is_refuted run.standing ∷ [])))))
    ≡ state_bits n (state_of run)
unfolding state_bits
state_parts n run =
    ap₂ (λ (y x : List Bool). upto (bit run.t) n
    ++ (upto (bit run.f) n ++ (y ++ (x ++ (is_satisfied run.standing ∷ (is_refuted run.standing ∷ []))))))
    (ap₂ (λ (k m : ℕ). upto (λ i. eqb i k) m) (sym (length-levels run.depth run.levels)) (add-one n))
    (joined_cong _ _ n (λ l h. sym (level_group n run.levels run.depth l)))
