-- Gates' wires come after the inputs, and the last wires of a list are those from a number on: each by induction.
use mathlib.Core.Path.{◌≡◌, sym, ap, ap₂, ◌∙◌}
use mathlib.Core.Bool.{Bool, false}
use mathlib.Core.List.{List, [], ◌∷◌, ◌++◌, append_assoc, append-nil}
use Prim.Native.Nat.{ℕ, zero, suc, ◌+◌, ◌≤◌}
use native.Mathlib.Nat.{add-zero}
use native.Mathlib.Omega.{arith}
use lib.ListN.{length, drop, drop_of_length-le}
use lib.Seq.{drop-cons}
use Rattle.gates.specs.Gates.{Gate, wire, value, wires_of}
use Rattle.wires.specs.Layout.{upto}
use Rattle.wires.proofs.Series.{upto_cong}

pub wires_behind : (w : List Bool) (gates : List Gate) → (rest : List Bool) × (wires_of w gates ≡ w ++ rest)
unfolding wires_of
wires_behind w [] = ([], sym (append-nil w))
wires_behind w (g ∷ gs) = let x = wires_behind (w ++ (value w g ∷ [])) gs in (value w g ∷ x.0, x.1 ∙ append_assoc w (value w g ∷ []) x.0)

pub last_wires : (w : List Bool) (at k : ℕ) → length w ≡ at + k → drop at w ≡ upto (λ i. wire w (at + i)) k
unfolding upto
last_wires w at zero e = let h : length w ≤ at = omega arith in drop_of_length-le w h
last_wires w at (suc k) e =
    drop-cons w at false (omega arith)
    ∙ ap₂ ◌∷◌ (ap (wire w) (sym (add-zero at))) (last_wires w (suc at) k (omega arith) ∙ upto_cong _ _ k (λ i h. ap (wire w) (omega arith)))
