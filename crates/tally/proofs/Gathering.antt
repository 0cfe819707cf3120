-- Six words as code has them, put together.
use mathlib.Core.Path.{◌≡◌, ap, ap₂, ◌∙◌}
use mathlib.Core.Bool.{Bool, true, false, ◌&&◌, ◌||◌, cond}
use mathlib.Core.List.{List}
use Prim.Native.Nat.{ℕ, zero, suc, ◌+◌, ◌-◌, ◌*◌, ◌≤◌, ◌<◌}
use lib.Dec.{ltb}
use lib.Bits.{bit_and, bit_or}
use lib.ListN.{get_or}
use borrow.Author.Tests.{lt-ltb, le-ltb}
use Rattle.words.specs.Sets.{bit, put, any, count, word_of}
use Rattle.words.proofs.WordOf.{bit_word_of, word_of_cong}
use Rattle.tally.specs.declared.Tally.{Tally}
use Rattle.tally.specs.declared.rows.Forced.{Forced}
use Rattle.tally.specs.Words.{size_of, variables_are, forces_only, forced_among, forced_in, gathered, rows_without, rows_holding, all_after, tally_after}
use Rattle.tally.proofs.Looking.{side}

-- the number of rows
pub size_is : (set : List ℕ) {u v w x y z : ℕ}
    → u ≡ count (bit (get_or set 0 0)) 64 → v ≡ count (bit (get_or set 1 0)) 64 → w ≡ count (bit (get_or set 2 0)) 64
    → x ≡ count (bit (get_or set 3 0)) 64 → y ≡ count (bit (get_or set 4 0)) 64 → z ≡ count (bit (get_or set 5 0)) 64 → u + v + w + x + y + z ≡ size_of set
size_is set p q r s t o = λ i. p i + q i + r i + s i + t i + o i

-- ---- what the rows of six words show

-- this, or some of k passes
abbrev or_upto : Bool → (ℕ → Bool) → ℕ → Bool
or_upto x p zero = x
or_upto x p (suc k) = or_upto x p k || p k

module _ (words set : List ℕ) (unset : ℕ) (s : Forced) where
  abbrev bare : ℕ → Bool
  bare w = any (λ j. bit (get_or set w 0) j && variables_are 0 words unset (64 * w + j)) 64

  abbrev only : Bool → ℕ → ℕ → Bool
  only sign v w = any (λ j. bit (get_or set w 0) j && forces_only sign words unset v (64 * w + j)) 64

  abbrev word : Bool → ℕ → ℕ
  word sign k = word_of (λ v. or_upto (bit (side sign s) v) (only sign v) k) 32

  -- after k words
  abbrev shown : ℕ → Forced
  shown k = record { conflict = or_upto s.conflict bare k; positive = word true k; negative = word false k }

  shown-next : (k : ℕ) {x r : Forced} → x ≡ shown k → r ≡ forced_among words (64 * k) (get_or set k 0) unset x → r ≡ shown (suc k)
  unfolding forced_among
  shown-next k e h =
      h ∙ ap (forced_among words (64 * k) (get_or set k 0) unset) e
      ∙ (λ i. record { conflict = or_upto s.conflict bare k || bare k; positive = more true i; negative = more false i })
    where
      more : (sign : Bool) → word_of (λ v. bit (word sign k) v || only sign v k) 32 ≡ word sign (suc k)
      more sign = word_of_cong _ _ 32 (λ v b. ap (λ (y : Bool). y || only sign v k) (bit_word_of (λ v. or_upto (bit (side sign s) v) (only sign v) k) 32 v b))

  pub set_is : {a b c d e r : Forced}
      → a ≡ forced_among words 0 (get_or set 0 0) unset s → b ≡ forced_among words 64 (get_or set 1 0) unset a
      → c ≡ forced_among words 128 (get_or set 2 0) unset b
      → d ≡ forced_among words 192 (get_or set 3 0) unset c → e ≡ forced_among words 256 (get_or set 4 0) unset d
      → r ≡ forced_among words 320 (get_or set 5 0) unset e
      → r ≡ forced_in words set unset s
  unfolding forced_among forced_in
  set_is p q k l m o = shown-next 5 (shown-next 4 (shown-next 3 (shown-next 2 (shown-next 1 p q) k) l) m) o

-- ---- the tally

pub gather_is : (words : List ℕ) (unset positive negative : ℕ) (unsatisfied look : List ℕ) (shown : Forced) (number : ℕ)
    → shown ≡ forced_in words look unset (record { conflict = false; positive = positive; negative = negative }) → number ≡ size_of unsatisfied
    → ◌≡◌ {A = Tally} (record {
      number = number;
      conflict = shown.conflict;
      unsatisfied = unsatisfied;
      positive = shown.positive;
      negative = shown.negative;
    })
    (gathered words unset positive negative unsatisfied look)
unfolding gathered
gather_is words unset positive negative unsatisfied look shown number e q =
    λ i. record { number = q i; conflict = (e i).conflict; unsatisfied = unsatisfied; positive = (e i).positive; negative = (e i).negative }

-- by the sets of rows
pub after_is : (words index : List ℕ) (own other unset : ℕ) (tally : Tally) (still look : List ℕ) (r : Tally)
    → still ≡ rows_without tally.unsatisfied index own → look ≡ rows_holding still index other
    → r ≡ gathered words unset (bit_and tally.positive unset) (bit_and tally.negative unset) still look → r ≡ all_after words index own other unset tally
unfolding all_after
after_is words index own other unset tally still look r e q h =
    h ∙ ap₂ (gathered words unset (bit_and tally.positive unset) (bit_and tally.negative unset)) e (q ∙ ap (λ (x : List ℕ). rows_holding x index other) e)

-- by the literal's sign
module _ (words index : List ℕ) (t f v : ℕ) (tally : Tally) (sign : Bool) where
  pub no_variable_lem : 32 ≤ v → tally ≡ tally_after words index t f v sign tally
  unfolding tally_after
  no_variable_lem h = rw (le-ltb v 32 h)

  module _ (low : v < 32) (x : ℕ) (e : x ≡ cond (ltb v 32) (put (bit_or t f) v) (bit_or t f)) where
    put_is : x ≡ put (bit_or t f) v
    put_is = e ∙ rw (lt-ltb v 32 low)

    pub sign-true : sign ≡ true → all_after words index v (32 + v) (4294967295 - x) tally ≡ tally_after words index t f v sign tally
    unfolding tally_after
    sign-true q = ap (λ (y : ℕ). all_after words index v (32 + v) (4294967295 - y) tally) put_is ∙ rw (lt-ltb v 32 low, q)

    pub sign-false : sign ≡ false → all_after words index (32 + v) v (4294967295 - x) tally ≡ tally_after words index t f v sign tally
    unfolding tally_after
    sign-false q = ap (λ (y : ℕ). all_after words index (32 + v) v (4294967295 - y) tally) put_is ∙ rw (lt-ltb v 32 low, q)
