-- Levels read into the front of a run's array: one more stored reads one more, and the array is those and the unused ones. By induction on the depth.
use mathlib.Core.Path.{◌≡◌, refl, sym, ap, ap₂, ◌∙◌}
use mathlib.Core.List.{List, [], ◌∷◌, ◌++◌, reverse, reverse-cons}
use Prim.Native.Nat.{ℕ, zero, suc, ◌+◌, ◌≤◌, ◌<◌}
use native.Mathlib.Numerals.{add-one}
use native.Mathlib.Omega.{arith}
use lib.ListN.{length, set, take, drop, replicate, length-take}
use lib.Seq.{take-length}
use Rattle.std.proofs.lemmas.List.{take_more_set, drop-replicate}
use Rattle.state.specs.declared.Level.{Level}
use Rattle.state.specs.State.{none}
use Rattle.readback.specs.Unpacking.{last_first}
use Rattle.readback.specs.Levels.{array_of}

pub length_last : (d : ℕ) (a : ℕ → Level) → length (last_first d a) ≡ d
unfolding last_first
length_last zero a = refl
length_last (suc d) a = ap suc (length_last d a)

-- the first levels of a part, one more
pub read-turn : (a : ℕ → Level) (l : ℕ) (items : List Level) (x : Level) → l < length items → take l items ≡ reverse (last_first l a) → x ≡ a l
    → take (l + 1) (set items l x) ≡ reverse (last_first (l + 1) a)
unfolding last_first
read-turn a l items x h e q =
    take_more_set items l x h
    ∙ ap₂ (λ (v : List Level) (y : Level). v ++ y ∷ []) e q
    ∙ sym (reverse-cons (a l) (last_first l a))
    ∙ ap (λ (k : ℕ). reverse (last_first k a)) (sym (add-one l))

pub first_part : (d : ℕ) → d ≤ 32 → length (take d (replicate 32 none)) ≡ d
first_part d h = length-take d (replicate 32 none) ∙ omega arith

-- all of them, and those that stay
pub read_end : (a : ℕ → Level) (d l : ℕ) (items : List Level) → length items ≡ d → l ≡ d → take l items ≡ reverse (last_first l a)
    → items ++ drop d (replicate 32 none) ≡ array_of a d
read_end a d l items size k e =
    let whole : l ≡ length items = k ∙ sym size in
    ap₂ (λ (v w : List Level). v ++ w)
    (sym (ap (λ (i : ℕ). take i items) whole ∙ take-length items) ∙ e ∙ ap (λ (i : ℕ). reverse (last_first i a)) k)
    (drop-replicate d 32 none)
