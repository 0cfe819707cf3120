-- Slots after some steps: they fit a word, and are stored one by one.
use mathlib.Core.Path.{◌≡◌, refl, ap₂}
use mathlib.Core.List.{List, [], ◌∷◌}
use Prim.Native.Nat.{ℕ, suc, ◌+◌, ◌*◌, ◌≤◌, ◌<◌}
use native.Mathlib.Nat.{mul-le-mul}
use native.Mathlib.Omega.{arith}
use lib.ListN.{length, get_or}
use Rattle.netlist.specs.Arrays.{along, Below}
use Rattle.netlist.proofs.Arrays.{below_at}

module _ (slots steps : List ℕ) (i : ℕ) (hs : Below 41943040 slots) (hd : Below 65536 steps) (hi : i ≤ 384)
    (es : length slots ≡ 8) (ed : length steps ≡ 8) where
  pub step_fits : (k : ℕ) → k < 8 → get_or steps k 0 * i ≤ 25165824
  step_fits k l =
      let d : get_or steps k 0 ≤ 65536 = omega (arith, below_at 65536 steps hd k (omega arith)) in
      omega (arith, mul-le-mul d hi)

  pub sum_fits : (k : ℕ) → k < 8 → get_or slots k 0 + get_or steps k 0 * i ≤ 67108864
  sum_fits k l = omega (arith, step_fits k l, below_at 41943040 slots hs k (omega arith))

-- the slots after i steps, each by itself
pub along-each : (slots steps ys : List ℕ) (i : ℕ) → length steps ≡ length slots → length ys ≡ length slots
    → ((k : ℕ) → k < length slots → get_or ys k 0 ≡ get_or slots k 0 + get_or steps k 0 * i) → ys ≡ along slots steps i
along-each [] steps [] i es ey h = refl
along-each [] steps (y ∷ ys) i es ey h = absurd (omega arith)
along-each (x ∷ slots) [] ys i es ey h = absurd (omega arith)
along-each (x ∷ slots) (d ∷ steps) [] i es ey h = absurd (omega arith)
along-each (x ∷ slots) (d ∷ steps) (y ∷ ys) i es ey h =
    ap₂ ◌∷◌ (h 0 (omega arith)) (along-each slots steps ys i (omega arith) (omega arith) (λ k l. h (suc k) (omega arith)))

-- slots that are steps further are still below a bound
pub along-below : (b d k : ℕ) (slots steps : List ℕ) (i : ℕ) → Below b slots → Below d steps → i ≤ k → Below (b + d * k) (along slots steps i)
along-below b d k [] steps i hs hd hi = tt
along-below b d k (x ∷ slots) [] i hs hd hi = tt
along-below b d k (x ∷ slots) (y ∷ steps) i hs hd hi =
    let l : y ≤ d = omega (arith, hd.0) in
    (omega (arith, hs.0, mul-le-mul l hi), along-below b d k slots steps i hs.1 hd.1 hi)

pub below_more : (b d : ℕ) (slots : List ℕ) → Below b slots → b ≤ d → Below d slots
below_more b d [] h l = tt
below_more b d (x ∷ slots) h l = (omega (arith, h.0), below_more b d slots h.1 l)
