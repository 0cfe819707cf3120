-- Laws of the wires' values, each by induction on the gates: what a gate reads is not changed by the wires after it.
use mathlib.Core.Path.{◌≡◌, refl, ap, ap₂, sym, ◌∙◌}
use mathlib.Core.Bool.{Bool, true, false, not, ◌&&◌, and_assoc}
use mathlib.Core.List.{List, [], ◌∷◌, ◌++◌}
use Prim.Native.Nat.{ℕ, suc, ◌+◌, ◌<◌}
use native.Mathlib.Nat.{add-zero}
use native.Mathlib.Omega.{arith}
use borrow.Author.Tests.{ltb-true}
use lib.Dec.{ltb}
use lib.ListN.{length, length-append, get_or-append}
use Rattle.words.specs.Booleans.{◌⊕◌}
use Rattle.words.proofs.Truth.{and_l, and_r}
use Rattle.gates.specs.Gates.{Gate, wire, value, wires_of}
use Rattle.gates.specs.Gates.Gate.{XOR, AND, INV}

-- a gate that reads wires below m only
abbrev pub reads : ℕ → Gate → Bool
reads m (XOR a b) = ltb a m && ltb b m
reads m (AND a b) = ltb a m && ltb b m
reads m (INV a) = ltb a m

-- gates after m wires, each of which reads wires before its own
unfoldable pub ordered : ℕ → List Gate → Bool
ordered m [] = true
ordered m (g ∷ gs) = reads m g && ordered (suc m) gs

-- two lists of gates joined: ordered after m wires just if the first is, and the second is after these and the first list's wires
pub ordered_append : (m : ℕ) (xs ys : List Gate) → ordered m (xs ++ ys) ≡ ordered m xs && ordered (m + length xs) ys
unfolding ordered
ordered_append m [] ys = ap (λ (k : ℕ). ordered k ys) (sym (add-zero m))
ordered_append m (g ∷ xs) ys =
    let e : suc m + length xs ≡ m + suc (length xs) = omega arith in
    ap (λ (b : Bool). reads m g && b) (ordered_append (suc m) xs ys ∙ ap (λ (k : ℕ). ordered (suc m) xs && ordered k ys) e)
    ∙ sym (and_assoc (reads m g) (ordered (suc m) xs) (ordered (m + suc (length xs)) ys))

-- ---- the wires' values

-- as many wires as inputs and gates
pub wires_length : (w : List Bool) (gs : List Gate) → length (wires_of w gs) ≡ length w + length gs
unfolding wires_of
wires_length w [] = sym (add-zero (length w))
wires_length w (g ∷ gs) = omega (arith, wires_length (w ++ (value w g ∷ [])) gs, length-append w (value w g ∷ []))

-- gates change no wire before them
pub wires_keep : (w : List Bool) (gs : List Gate) (i : ℕ) → i < length w → wire (wires_of w gs) i ≡ wire w i
unfolding wires_of
wires_keep w [] i h = refl
wires_keep w (g ∷ gs) i h =
    wires_keep (w ++ (value w g ∷ [])) gs i (omega (arith, length-append w (value w g ∷ []))) ∙ get_or-append w (value w g ∷ []) false i h

-- nor the value of a gate that reads the wires before them
pub value-keep : (w : List Bool) (gs : List Gate) (g : Gate) → reads (length w) g ≡ true → value (wires_of w gs) g ≡ value w g
value-keep w gs (XOR a b) r =
    ap₂ (λ (x y : Bool). x ⊕ y) (wires_keep w gs a (ltb-true _ _ (and_l _ _ r))) (wires_keep w gs b (ltb-true _ _ (and_r (ltb a (length w)) _ r)))
value-keep w gs (AND a b) r =
    ap₂ (λ (x y : Bool). x && y) (wires_keep w gs a (ltb-true _ _ (and_l _ _ r))) (wires_keep w gs b (ltb-true _ _ (and_r (ltb a (length w)) _ r)))
value-keep w gs (INV a) r = ap not (wires_keep w gs a (ltb-true _ _ r))
