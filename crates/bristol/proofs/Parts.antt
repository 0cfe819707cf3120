-- A part of a list that runs to its end: what is lent and what comes back, by the lengths.
use mathlib.Core.Path.{◌≡◌, ap, ◌∙◌}
use mathlib.Core.List.{List, [], ◌++◌, append-nil}
use Prim.Native.Nat.{ℕ, ◌-◌, ◌≤◌}
use native.Mathlib.Omega.{arith}
use borrow.Rule.Slice.PartMut.{mid_of, put_mid}
use lib.ListN.{length, take, drop, length-drop, drop_of_length-le}
use lib.Seq.{take_all}

module _ (l : List ℕ) (at : ℕ) where
  pub lent_part : mid_of at (length l - at) l ≡ drop at l
  lent_part = take_all (length l - at) (drop at l) (omega (arith, length-drop at l))

  pub put_back : (out : List ℕ) → put_mid at (length l - at) l out ≡ take at l ++ out
  put_back out =
      let end : length (drop at l) ≤ length l - at = omega (arith, length-drop at l) in
      let none : drop (length l - at) (drop at l) ≡ [] = drop_of_length-le (drop at l) end in
      ap (λ (x : List ℕ). take at l ++ (out ++ x)) none ∙ ap (λ (x : List ℕ). take at l ++ x) (append-nil out)
