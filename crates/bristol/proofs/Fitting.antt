-- The lines that fit are the longest front of the lines whose bytes have room. By induction on the lines.
use mathlib.Core.Path.{◌≡◌, refl, sym, ap, ◌∙◌, subst}
use mathlib.Core.Bool.{Bool, true, false, cond}
use mathlib.Core.List.{List, [], ◌∷◌, flatten}
use Prim.Native.Nat.{ℕ, zero, suc, ◌-◌, ◌≤◌, ◌<◌}
use native.Mathlib.Omega.{arith}
use borrow.Author.Tests.{lt-ltb, le-ltb, ltb-true, ltb-false}
use lib.Dec.{ltb}
use lib.ListN.{length, get_or, take, drop, length-append, drop_of_length-le}
use lib.Seq.{take_all, take-length, drop-cons}
use Rattle.bristol.specs.Writing.{fitting}

-- ---- by the next line

module _ (ls : List (List ℕ)) (i room : ℕ) where
  pub fitting_past : length ls ≤ i → fitting room (drop i ls) ≡ []
  unfolding fitting
  fitting_past h = ap (fitting room) (drop_of_length-le ls h)

  module _ (h : i < length ls) where
    -- whether the next line has room decides
    next_fits : (b : Bool) → ltb room (length (get_or ls i [])) ≡ b
        → fitting room (drop i ls) ≡ cond b [] (get_or ls i [] ∷ fitting (room - length (get_or ls i [])) (drop (suc i) ls))
    unfolding fitting
    next_fits b e =
        ap (fitting room) (drop-cons ls i [] h)
        ∙ ap (λ (x : Bool). cond x [] (get_or ls i [] ∷ fitting (room - length (get_or ls i [])) (drop (suc i) ls))) e

    pub fitting-next : length (get_or ls i []) ≤ room → fitting room (drop i ls) ≡ get_or ls i [] ∷ fitting (room - length (get_or ls i [])) (drop (suc i) ls)
    fitting-next f = next_fits false (le-ltb _ _ f)

    pub fitting-none : room < length (get_or ls i []) → fitting room (drop i ls) ≡ []
    fitting-none f = next_fits true (lt-ltb _ _ f)

-- ---- the longest front that has room

-- they are lines from the front
pub fitting-front : (room : ℕ) (ls : List (List ℕ)) → fitting room ls ≡ take (length (fitting room ls)) ls
unfolding fitting
fitting-front room [] = refl
fitting-front room (l ∷ ls) = go (ltb room (length l)) (fitting-front (room - length l) ls)
  where
    go : (b : Bool) → fitting (room - length l) ls ≡ take (length (fitting (room - length l) ls)) ls
        → cond b [] (l ∷ fitting (room - length l) ls) ≡ take (length (cond b [] (l ∷ fitting (room - length l) ls))) (l ∷ ls)
    go true rest = refl
    go false rest = ap (λ (x : List (List ℕ)). l ∷ x) rest

-- they have room
pub fitting-room : (room : ℕ) (ls : List (List ℕ)) → length (flatten (fitting room ls)) ≤ room
unfolding fitting flatten
fitting-room room [] = omega arith
fitting-room room (l ∷ ls) = go (ltb room (length l)) refl (fitting-room (room - length l) ls)
  where
    go : (b : Bool) → ltb room (length l) ≡ b → length (flatten (fitting (room - length l) ls)) ≤ room - length l
        → length (flatten (cond b [] (l ∷ fitting (room - length l) ls))) ≤ room
    go true e rest = omega arith
    go false e rest = omega (arith, length-append l (flatten (fitting (room - length l) ls)), ltb-false room (length l) e)

-- and no more of them have
pub fitting_longest : (room : ℕ) (ls : List (List ℕ)) (k : ℕ) → k ≤ length ls → length (flatten (take k ls)) ≤ room → k ≤ length (fitting room ls)
unfolding fitting flatten
fitting_longest room ls zero h f = omega arith
fitting_longest room [] (suc k) h f = absurd (omega arith)
fitting_longest room (l ∷ ls) (suc k) h f = go (ltb room (length l)) refl (fitting_longest (room - length l) ls k (omega arith))
  where
    go : (b : Bool) → ltb room (length l) ≡ b → (length (flatten (take k ls)) ≤ room - length l → k ≤ length (fitting (room - length l) ls))
        → suc k ≤ length (cond b [] (l ∷ fitting (room - length l) ls))
    go true e rest = absurd (omega (arith, ltb-true room (length l) e, f, length-append l (flatten (take k ls))))
    go false e rest = omega (arith, rest (omega (arith, f, length-append l (flatten (take k ls)))))

-- where all of them have room, they are all
pub fitting-all : (room : ℕ) (ls : List (List ℕ)) → length (flatten ls) ≤ room → fitting room ls ≡ ls
fitting-all room ls f =
    let front = subst (λ (x : List (List ℕ)). length (flatten x) ≤ room) (sym (take-length ls)) f in
    fitting-front room ls ∙ take_all (length (fitting room ls)) ls (fitting_longest room ls (length ls) (omega arith) front)
