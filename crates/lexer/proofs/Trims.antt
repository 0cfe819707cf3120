-- A text without the bytes at its end that pass is a front part of it.
use mathlib.Core.Path.{◌≡◌, refl, sym, ap, ◌∙◌}
use mathlib.Core.Bool.{Bool}
use mathlib.Core.List.{List, ◌++◌, reverse, reverse-append, reverse-reverse}
use Prim.Native.Nat.{ℕ, ◌≤◌}
use native.Mathlib.Omega.{arith}
use lib.ListN.{length, take, drop, length-drop, length-reverse, take-append-drop}
use lib.Seq.{take_at}
use Rattle.lexer.specs.Bytes.{run, trimmed}

-- what is left is a front part
pub trimmed-take : (p : ℕ → Bool) (bs : List ℕ) → take (length (trimmed p bs)) bs ≡ trimmed p bs
unfolding trimmed
trimmed-take p bs = ap (take (length (trimmed p bs))) (sym split) ∙ take_at (trimmed p bs) (reverse (take k (reverse bs))) (length (trimmed p bs)) refl
  where
    k : ℕ
    k = run p (reverse bs)

    split : reverse (drop k (reverse bs)) ++ reverse (take k (reverse bs)) ≡ bs
    split = sym (reverse-append (take k (reverse bs)) (drop k (reverse bs))) ∙ ap reverse (take-append-drop k (reverse bs)) ∙ reverse-reverse bs

-- a text without the bytes that pass at its end is no longer than the text
pub trimmed_le : (p : ℕ → Bool) (bs : List ℕ) → length (trimmed p bs) ≤ length bs
unfolding trimmed
trimmed_le p bs =
    omega (arith, length-reverse (drop (run p (reverse bs)) (reverse bs)), length-drop (run p (reverse bs)) (reverse bs), length-reverse bs)
