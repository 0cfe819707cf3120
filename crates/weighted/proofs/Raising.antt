-- Raising the weights of a word's variables, from the lowest on: what has been raised is what the word has and what is left has not.
use mathlib.Core.Path.{◌≡◌, refl, sym, ap, ◌∙◌}
use mathlib.Core.Bool.{Bool, true, false, not, ◌&&◌, cond, and-false}
use mathlib.Core.List.{List, [], ◌∷◌}
use Prim.Native.Nat.{ℕ, zero, suc, ◌-◌, ◌^◌, ◌<◌}
use native.Mathlib.Nat.{lt_of_le_of_lt}
use lib.Bits.{bit_and, and_le_l}
use lib.Dec.{eqb}
use lib.ListN.{get_or, set}
use lib.Seq.{get_or-set_other}
use lib.Ieee.{Float, nan, binary64, add}
use borrow.Author.Tests.{eqb-true, eqb-false, eq-eqb}
use Rattle.words.specs.Sets.{bit, lowest}
use Rattle.words.proofs.Truth.{on, and_l}
use Rattle.words.proofs.Bits.{bit-zero}
use Rattle.words.proofs.Operations.{lowest_in}
use Rattle.words.proofs.Ones.{and_pred}
use Rattle.weighted.specs.Floats.{Raised}

pub record Raising (ws : List Float) (word : ℕ) (gain : Float) (raised : List Float) (left : ℕ) : Type 0 where
  pub small : left < 2 ^ 32
  pub within : (i : ℕ) → bit left i ≡ true → bit word i ≡ true
  pub done : (i : ℕ) → i < 32 → get_or raised i nan ≡ cond (bit word i && not (bit left i)) (add binary64 (get_or ws i nan) gain) (get_or ws i nan)

-- one float raised in place; past the end both sides are no number
raised_at : (xs : List Float) (v : ℕ) (gain : Float) → get_or (set xs v (add binary64 (get_or xs v nan) gain)) v nan ≡ add binary64 (get_or xs v nan) gain
unfolding add
raised_at [] v gain = refl
raised_at (x ∷ xs) zero gain = refl
raised_at (x ∷ xs) (suc v) gain = raised_at xs v gain

apart : (b : Bool) → b && not b ≡ false
apart true = refl
apart false = refl

keep : (b : Bool) → b && true ≡ b
keep true = refl
keep false = refl

module _ (ws : List Float) (word : ℕ) (gain : Float) where
  pub raising_start : word < 2 ^ 32 → Raising ws word gain ws word
  raising_start h = record {
    small = h;
    within = λ i e. e;
    done = λ i b. sym (ap (λ (x : Bool). cond x (add binary64 (get_or ws i nan) gain) (get_or ws i nan)) (apart (bit word i)));
  }

  module _ (raised : List Float) (left : ℕ) (s : Raising ws word gain raised left) where
    pub raising_end : left ≡ 0 → Raised ws word gain raised
    unfolding Raised
    raising_end z i b =
        s.done i b
        ∙ ap (λ (x : Bool). cond (bit word i && not x) (add binary64 (get_or ws i nan) gain) (get_or ws i nan)) (ap (λ (w : ℕ). bit w i) z ∙ bit-zero i)
        ∙ ap (λ (x : Bool). cond x (add binary64 (get_or ws i nan) gain) (get_or ws i nan)) (keep (bit word i))

    module _ (z : left ≡ 0 → ⊥) where
      -- the lowest bit is one of the 32
      lowest-is : (lowest (bit left) 32 < 32) × (bit left (lowest (bit left) 32) ≡ true)
      lowest-is = lowest_in 32 left s.small z

      pub lowest-below : (v : ℕ) → v ≡ lowest (bit left) 32 → v < 32
      lowest-below v e = rw e lowest-is.0

      pub raising_next : (v : ℕ) → v ≡ lowest (bit left) 32 → Raising ws word gain (set raised v (add binary64 (get_or raised v nan) gain))
          (bit_and left (left - 1))
      raising_next v e =
          record {
            small = lt_of_le_of_lt (and_le_l left (left - 1)) s.small;
            within = λ i h. s.within i (and_l (bit left i) _ (sym (cleared i) ∙ h));
            done = λ i b. on (eqb i v) (λ q. at-v i (eqb-true i v q)) (λ q. other i b q);
          }
        where
          cleared : (i : ℕ) → bit (bit_and left (left - 1)) i ≡ bit left i && not (eqb i v)
          cleared i = rw e (and_pred 32 left s.small z i)

          has : bit left v ≡ true
          has = rw e lowest-is.1

          below : v < 32
          below = lowest-below v e

          was : get_or raised v nan ≡ get_or ws v nan
          was = s.done v below ∙ rw (has, and-false)

          at-v : (i : ℕ) → i ≡ v → get_or (set raised v (add binary64 (get_or raised v nan) gain)) i nan
              ≡ cond (bit word i && not (bit (bit_and left (left - 1)) i)) (add binary64 (get_or ws i nan) gain) (get_or ws i nan)
          at-v i q =
              rw q
              (raised_at raised v gain
              ∙ rw (was, cleared v, has, eq-eqb v v refl, s.within v has))

          other : (i : ℕ) → i < 32 → eqb i v ≡ false → get_or (set raised v (add binary64 (get_or raised v nan) gain)) i nan
              ≡ cond (bit word i && not (bit (bit_and left (left - 1)) i)) (add binary64 (get_or ws i nan) gain) (get_or ws i nan)
          other i b q =
              get_or-set_other raised v i (add binary64 (get_or raised v nan) gain) nan (eqb-false i v q)
              ∙ s.done i b
              ∙ rw (cleared i, q, keep (bit left i))
