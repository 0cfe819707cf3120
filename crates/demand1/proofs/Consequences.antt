-- What demand 1 comes to: 0 exactly if no check applies, no number but those listed, and two calls that agree on the words named do the same.
use mathlib.Core.Path.{◌≡◌, refl, sym, ap, ap₂, ◌∙◌}
use mathlib.Core.Bool.{Bool, true, false, not, ◌&&◌, ◌||◌, cond, true≢false, or-true}
use mathlib.Core.List.{List, [], ◌∷◌}
use Prim.Native.Nat.{ℕ}
use lib.Dec.{eqb}
use borrow.Author.Tests.{eq-eqb}
use Rattle.refusals.specs.Numbers.{number_of}
use Rattle.refusals.proofs.Numbers.{number-positive}
use Rattle.refusals.specs.Checks.{Check}
use Rattle.demand1.specs.Calls.{first_number, numbers_of, beside}
use Rattle.demand1.specs.Demand1.{Entry, done, Demand1}

-- no check applies
unfoldable pub none : List Check → Bool
none [] = true
none (c ∷ cs) = not c.fails && none cs

-- a number is among some
unfoldable pub among : ℕ → List ℕ → Bool
among k [] = false
among k (x ∷ xs) = eqb k x || among k xs

-- ---- of checks

passed_then : (c : Check) (cs : List Check) → (first_number cs ≡ 0 → none cs ≡ true) → first_number (c ∷ cs) ≡ 0 → none (c ∷ cs) ≡ true
unfolding first_number none
passed_then c cs h = go c.fails
  where
    go : (b : Bool) → cond b (number_of c.refusal) (first_number cs) ≡ 0 → not b && none cs ≡ true
    go true e = absurd (number-positive c.refusal e)
    go false e = h e

none_passed : (cs : List Check) → first_number cs ≡ 0 → none cs ≡ true
unfolding none
none_passed [] e = refl
none_passed (c ∷ cs) e = passed_then c cs (none_passed cs) e

none_then : (cs : List Check) → none cs ≡ true → first_number cs ≡ 0
unfolding first_number none
none_then [] e = refl
none_then (c ∷ cs) e = go c.fails e (none_then cs)
  where
    go : (b : Bool) → not b && none cs ≡ true → (none cs ≡ true → first_number cs ≡ 0) → cond b (number_of c.refusal) (first_number cs) ≡ 0
    go true h k = absurd (true≢false (sym h))
    go false h k = k h

first-among : (cs : List Check) → among (first_number cs) (0 ∷ numbers_of cs) ≡ true
unfolding first_number among
first-among [] = refl
first-among (c ∷ cs) = go c.fails (first-among cs)
  where
    go : (b : Bool) → among (first_number cs) (0 ∷ numbers_of cs) ≡ true
        → among (cond b (number_of c.refusal) (first_number cs)) (0 ∷ number_of c.refusal ∷ numbers_of cs) ≡ true
    go true h = let k = number_of c.refusal in rw (eq-eqb k k refl) (or-true (eqb k 0))
    go false h = insert (eqb (first_number cs) 0) (eqb (first_number cs) (number_of c.refusal)) (among (first_number cs) (numbers_of cs)) h
      where
        insert : (x y z : Bool) → x || z ≡ true → x || (y || z) ≡ true
        insert true y z k = refl
        insert false true z k = refl
        insert false false z k = k

-- ---- of functions

module _ {A : Type 0} (e : Entry A) (demand : Demand1 e) where
  -- 0 exactly if no check applies
  pub taken_exactly : (a : A) → ((done e a).returned ≡ 0 → none (done e a).judged ≡ true) × (none (done e a).judged ≡ true → (done e a).returned ≡ 0)
  taken_exactly a = (
    λ h. none_passed (done e a).judged (sym (demand.first a) ∙ h),
    λ h. demand.first a ∙ none_then (done e a).judged h,
  )

  -- no number but 0 and those listed
  pub listed : (a : A) → among (done e a).returned (0 ∷ e.numbers) ≡ true
  listed a =
      ap₂ (λ (k : ℕ) (l : List ℕ). among k (0 ∷ l)) (demand.first a) (sym (demand.order a)) ∙ first-among (done e a).judged

  -- two calls that agree on the words named return the same number and leave the same in these words
  pub agreeing : (a b : A) → e.named a ≡ e.named b → ((done e a).returned ≡ (done e b).returned)
      × ((done e a).left ≡ beside (done e (e.named b)).left (e.past a)) × ((done e b).left ≡ beside (done e (e.named b)).left (e.past b))
  agreeing a b h = (
    demand.alone a ∙ ap (λ (x : A). (done e x).returned) h ∙ sym (demand.alone b),
    demand.stays a ∙ ap (λ (x : A). beside (done e x).left (e.past a)) h,
    demand.stays b,
  )
