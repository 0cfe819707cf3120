-- Families of sections, one after the other, of sizes that differ: each member's gates hold at its base, and are accepted there. By induction on their number.
use mathlib.Core.Path.{◌≡◌, refl, ap, ◌∙◌, subst}
use mathlib.Core.Bool.{Bool, true}
use mathlib.Core.List.{List}
use Prim.Native.Nat.{ℕ, zero, suc, ◌+◌, ◌≤◌, ◌<◌}
use native.Mathlib.Nat.{not-suc-le-zero, lt_of_not-le, le_refl}
use native.Mathlib.Decide.{dec_le}
use native.Mathlib.Omega.{arith}
use lib.ListN.{length, length-append}
use Rattle.gates.specs.Gates.{Gate}
use Rattle.gates.proofs.Circuits.{ordered}
use Rattle.netlist.specs.Arrays.{rows}
use Rattle.netlist.proofs.Values.{Holds, holds-left, holds_right}
use Rattle.netlist.proofs.Arrays.{append_ordered}

module _ (f : ℕ → List Gate) (base : ℕ → ℕ) (n : ℕ) (next : (d : ℕ) → d < n → base d + length (f d) ≡ base (suc d)) where
  up_to : (k : ℕ) → k ≤ n → base 0 + length (rows f k) ≡ base k
  up_to zero h = omega arith
  up_to (suc k) h = omega (arith, length-append (rows f k) (f k), up_to k (omega arith), next k h)

  pub family_end : base 0 + length (rows f n) ≡ base n
  family_end = up_to n (le_refl n)

  module _ (W : ℕ → Bool) where
    members : (k : ℕ) → k ≤ n → Holds W (base 0) (rows f k) → (d : ℕ) → d < k → Holds W (base d) (f d)
    members zero q h d l = absurd (not-suc-le-zero l)
    members (suc k) q h d l = go (members k (omega arith) (holds-left W (base 0) (rows f k) (f k) h) d) (dec_le k d)
      where
        go : (d < k → Holds W (base d) (f d)) → Dec (k ≤ d) → Holds W (base d) (f d)
        go before (yes p) =
            let e : k ≡ d = omega arith in
            subst (λ (k : ℕ). Holds W (base k) (f k)) e
            (subst (λ (x : ℕ). Holds W x (f k)) (up_to k (omega arith)) (holds_right W (base 0) (rows f k) (f k) h))
        go before (no p) = before (lt_of_not-le p)

    pub family_holds : Holds W (base 0) (rows f n) → (d : ℕ) → d < n → Holds W (base d) (f d)
    family_holds = members n (le_refl n)

  module _ (each : (d : ℕ) → d < n → ordered (base d) (f d) ≡ true) where
    in_order : (k : ℕ) → k ≤ n → ordered (base 0) (rows f k) ≡ true
    unfolding ordered
    in_order zero h = refl
    in_order (suc k) h =
        append_ordered (base 0) (rows f k) (f k) (in_order k (omega arith)) (ap (λ (x : ℕ). ordered x (f k)) (up_to k (omega arith)) ∙ each k h)

    pub family_ordered : ordered (base 0) (rows f n) ≡ true
    family_ordered = in_order n (le_refl n)
