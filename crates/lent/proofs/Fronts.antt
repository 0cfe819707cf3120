-- The first values of a list, and what a buffer holds once they are copied over its front.
use mathlib.Core.Path.{◌≡◌, refl, sym, ap, ◌∙◌}
use mathlib.Core.List.{List, [], ◌∷◌, ◌++◌}
use Prim.Native.Nat.{ℕ, zero, suc, ◌+◌, ◌≤◌, min}
use native.Mathlib.Omega.{arith}
use native.Mathlib.Nat.{zero-add}
use lib.Dec.{leb}
use lib.ListN.{length, take, drop, set, length-take, length-set}
use lib.Seq.{sets, sets-eq, set_out, take_all}
use borrow.Author.Tests.{leb-true, leb-false}
use Rattle.words.proofs.Truth.{on}
use Rattle.lent.specs.Lent.{front}

module _ (values : List ℕ) (count n : ℕ) (e : n ≡ min count (length values)) where
  -- they are no more than all
  pub first-values : take n values ≡ take count values
  first-values =
      on (leb (length values) count)
      (λ t. let h = leb-true (length values) count t in take_all n values (omega arith) ∙ sym (take_all count values h))
      (λ t. let h : n ≡ count = omega (arith, leb-false (length values) count t) in ap (λ (k : ℕ). take k values) h)

  -- and copied, where they fit, they are those written over the front
  pub front_copied : (lent : List ℕ) → n ≤ length lent → take n values ++ drop n lent ≡ front (take count values) lent
  front_copied lent h =
      let first = take n values in
      let size : length first ≡ n = omega (arith, e, length-take n values) in
      ap (λ (k : ℕ). first ++ drop k lent) (sym size ∙ sym (zero-add (length first)))
      ∙ sym (sets-eq first lent 0 (omega arith))
      ∙ ap (λ (l : List ℕ). front l lent) first-values

-- ---- more values than the buffer has room for

-- past the buffer's end a store changes nothing
sets-out : (values lent : List ℕ) (i : ℕ) → length lent ≤ i → sets lent i values ≡ lent
sets-out [] lent i h = refl
sets-out (v ∷ vs) lent i h = rw (set_out lent i v h) (sets-out vs lent (suc i) (omega arith))

sets_room : (values lent : List ℕ) (i k : ℕ) → i + k ≡ length lent → sets lent i (take k values) ≡ sets lent i values
sets_room values lent i zero e = sym (sets-out values lent i (omega arith))
sets_room [] lent i (suc k) e = refl
sets_room (v ∷ vs) lent i (suc k) e = sets_room vs (set lent i v) (suc i) k (rw length-set (omega arith))

-- those that it has room for, copied, are all written over the front
pub front_room : (values lent : List ℕ) (n : ℕ) → n ≡ min (length values) (length lent) → take n values ++ drop n lent ≡ front values lent
front_room values lent n e =
    front_copied values (length lent) n (omega arith) lent (omega arith) ∙ sets_room values lent 0 (length lent) (zero-add (length lent))
