-- The rows of a set, one after another: what was shown and what is left to look at give what the whole set gives.
use mathlib.Core.Path.{◌≡◌, refl, sym, ap, ◌∙◌}
use mathlib.Core.Bool.{Bool, true, false, not, ◌&&◌, ◌||◌, cond, or-false, or-true, or_assoc}
use mathlib.Core.List.{List}
use Prim.Native.Nat.{ℕ, ◌+◌, ◌-◌, ◌*◌, ◌^◌, ◌<◌}
use native.Mathlib.Omega.{arith}
use lib.Dec.{eqb}
use lib.Bits.{bit_and, bit_or, and_le_r, or_lt}
use lib.ListN.{get_or}
use borrow.Author.Tests.{eq-eqb, eqb-true}
use Rattle.words.specs.Sets.{bit, any, count, lowest, word_of}
use Rattle.words.proofs.Truth.{on, and_l, taut2, agree, agree_eq}
use Rattle.words.proofs.Upto.{any-or, count-lt}
use Rattle.words.proofs.Last.{any_cong, any_false, any_at}
use Rattle.words.proofs.Bits.{bit-zero, bit-or}
use Rattle.words.proofs.Operations.{bit-and, and-lt-left, any_word, lowest_in}
use Rattle.words.proofs.Ones.{and_pred}
use Rattle.words.proofs.WordOf.{word_of_bit, word_of_cong}
use Rattle.tally.specs.declared.rows.Forced.{Forced}
use Rattle.tally.specs.Words.{variables_of, variables_are, word_of_sign, forces_only, with_row, forced_among}
use Rattle.tally.proofs.Counting.{exactly_none}

-- ---- the lowest row of what is left

module _ (left : ℕ) (low : left < 2 ^ 64) (z : left ≡ 0 → ⊥) (j : ℕ) (q : j ≡ lowest (bit left) 64) where
  abbrev less : ℕ
  less = bit_and left (left - 1)

  -- it is one of the 64
  pub row_low : j < 64
  row_low = omega (arith, q, (lowest_in 64 left low z).0)

  -- it is in the set
  pub has_row : bit left j ≡ true
  has_row = ap (bit left) q ∙ (lowest_in 64 left low z).1

  -- and it alone is taken away
  pub less-bit : (i : ℕ) → bit less i ≡ bit left i && not (eqb i j)
  less-bit i = and_pred 64 left low z i ∙ ap (λ (x : ℕ). bit left i && not (eqb i x)) (sym q)

  -- so that one row fewer is left
  pub fewer_left : count (bit less) 64 < count (bit left) 64
  fewer_left =
      count-lt (bit less) (bit left) 64 j row_low (less-bit j ∙ rw (has_row, eq-eqb j j refl)) has_row
      (λ i b e. and_l (bit left i) _ (sym (less-bit i) ∙ e))

  -- some row of what is left passes if that one does, or some row of the rest
  any_left : (g : ℕ → Bool) → any (λ i. bit left i && g i) 64 ≡ g j || any (λ i. bit less i && g i) 64
  any_left g =
      any_cong (λ i. bit left i && g i) (λ i. (eqb i j && g i) || (bit less i && g i)) 64 (λ i b. split i)
      ∙ any-or (λ i. eqb i j && g i) (λ i. bit less i && g i) 64
      ∙ ap (λ (x : Bool). x || any (λ i. bit less i && g i) 64) (any_at g 64 j row_low)
    where
      split : (i : ℕ) → bit left i && g i ≡ (eqb i j && g i) || (bit less i && g i)
      split i =
          on (eqb i j)
          (λ e. rw (less-bit i, e, ap (bit left) (eqb-true i j e) ∙ has_row) (sym (or-false (g i))))
          (λ e. rw (less-bit i, e) (agree_eq (taut2 (λ x y. agree (x && y) ((x && true) && y)) refl (bit left i) (g i))))

-- ---- one more row

-- the word of this sign
abbrev pub side : Bool → Forced → ℕ
side true s = s.positive
side false s = s.negative

module _ (words : List ℕ) (unset i : ℕ) (low : unset < 2 ^ 32) (s : Forced) where
  abbrev x : ℕ
  x = variables_of words unset i

  abbrev next : Forced
  next = with_row s (get_or words (2 * i) 0) (get_or words (2 * i + 1) 0) unset

  variables_low : x < 2 ^ 32
  variables_low = omega (arith, low, and_le_r (bit_or (get_or words (2 * i) 0) (get_or words (2 * i + 1) 0)) unset)

  -- no variable of the row is free
  none-zero : eqb x 0 ≡ variables_are 0 words unset i
  none-zero = not-not (eqb x 0) ∙ ap not (sym (any_word 32 x variables_low)) ∙ exactly_none (bit x) 32
    where
      not-not : (b : Bool) → b ≡ not (not b)
      not-not true = refl
      not-not false = refl

  none-one : eqb x 0 ≡ true → variables_are 1 words unset i ≡ false
  none-one e = ap (λ (k : ℕ). eqb k 1) (eqb-true (count (bit x) 32) 0 (sym none-zero ∙ e))

  -- the variables of one sign
  abbrev more : Bool → ℕ
  more sign = bit_or (side sign s) (bit_and (word_of_sign sign words i) x)

  side-next : (sign : Bool) → side sign next ≡ cond (variables_are 1 words unset i) (more sign) (side sign s)
  side-next sign =
      on (eqb x 0)
      (λ e. rw (e, none-one e) (same sign))
      (λ e. on (variables_are 1 words unset i) (λ c. rw (e, c) (added sign)) (λ c. rw (e, c)))
    where
      same : (sign : Bool) → side sign (record { conflict = true; positive = s.positive; negative = s.negative }) ≡ side sign s
      same true = refl
      same false = refl

      added : (sign : Bool) → side sign (record { conflict = s.conflict; positive = more true; negative = more false }) ≡ more sign
      added true = refl
      added false = refl

  row_below : (sign : Bool) → side sign s < 2 ^ 32 → side sign next < 2 ^ 32
  row_below sign h = rw (side-next sign) (by (variables_are 1 words unset i))
    where
      by : (b : Bool) → cond b (more sign) (side sign s) < 2 ^ 32
      by true = or_lt 32 (side sign s) _ h (omega (arith, variables_low, and_le_r (word_of_sign sign words i) x))
      by false = h

  row-forced : (sign : Bool) (v : ℕ) → bit (side sign next) v ≡ bit (side sign s) v || forces_only sign words unset v i
  row-forced sign v = ap (λ (w : ℕ). bit w v) (side-next sign) ∙ by (variables_are 1 words unset i)
    where
      by : (b : Bool) → bit (cond b (more sign) (side sign s)) v ≡ bit (side sign s) v || (b && (bit (word_of_sign sign words i) v && bit x v))
      by true =
          bit-or (side sign s) (bit_and (word_of_sign sign words i) x) v
          ∙ ap (λ (b : Bool). bit (side sign s) v || b) (bit-and (word_of_sign sign words i) x v)
      by false = sym (or-false (bit (side sign s) v))

  row_conflict : next.conflict ≡ s.conflict || variables_are 0 words unset i
  row_conflict =
      on (eqb x 0)
      (λ e. rw (sym none-zero, e) (sym (or-true s.conflict)))
      (λ e. rw (sym none-zero, e) (on (variables_are 1 words unset i) (λ c. rw c (sym (or-false s.conflict))) (λ c. rw c (sym (or-false s.conflict)))))

-- ---- the rows of a word

module _ (words : List ℕ) (first set unset : ℕ) (s : Forced) where
  abbrev bare : ℕ → Bool
  bare j = variables_are 0 words unset (first + j)

  abbrev only : Bool → ℕ → ℕ → Bool
  only sign v j = forces_only sign words unset v (first + j)

  pub record Looked (left : ℕ) (shown : Forced) : Type 0 where
    pub left-low : left < 2 ^ 64
    pub shown-low : (sign : Bool) → side sign shown < 2 ^ 32
    pub conflicts : shown.conflict || any (λ j. bit left j && bare j) 64 ≡ s.conflict || any (λ j. bit set j && bare j) 64
    pub forced : (sign : Bool) (v : ℕ)
        → bit (side sign shown) v || any (λ j. bit left j && only sign v j) 64 ≡ bit (side sign s) v || any (λ j. bit set j && only sign v j) 64

  pub looked_none : set < 2 ^ 64 → s.positive < 2 ^ 32 → s.negative < 2 ^ 32 → Looked set s
  looked_none h p q = record { left-low = h; shown-low = low; conflicts = refl; forced = λ sign v. refl }
    where
      low : (sign : Bool) → side sign s < 2 ^ 32
      low true = p
      low false = q

  module _ (left : ℕ) (shown : Forced) (o : Looked left shown) where
    pub looked_more : unset < 2 ^ 32 → (z : left ≡ 0 → ⊥) (j : ℕ) → j ≡ lowest (bit left) 64
        → (shown' : Forced) → shown' ≡ with_row shown (get_or words (2 * (first + j)) 0) (get_or words (2 * (first + j) + 1) 0) unset
        → Looked (bit_and left (left - 1)) shown'
    looked_more h z j q shown' e =
        record {
          left-low = and-lt-left 64 left _ o.left-low;
          shown-low = λ sign. rw e (row_below words unset (first + j) h shown sign (o.shown-low sign));
          conflicts = more shown.conflict _ bare (ap (λ (x : Forced). x.conflict) e ∙ row_conflict words unset (first + j) h shown) ∙ o.conflicts;
          forced = λ sign v.
              more (bit (side sign shown) v) _ (only sign v) (ap (λ (x : Forced). bit (side sign x) v) e ∙ row-forced words unset (first + j) h shown sign v)
              ∙ o.forced sign v;
        }
      where
        more : (b b' : Bool) (g : ℕ → Bool) → b' ≡ b || g j → b' || any (λ i. bit (bit_and left (left - 1)) i && g i) 64 ≡ b || any (λ i. bit left i && g i) 64
        more b b' g k =
            ap (λ (x : Bool). x || any (λ i. bit (bit_and left (left - 1)) i && g i) 64) k ∙ or_assoc b (g j) _
            ∙ ap (λ (x : Bool). b || x) (sym (any_left left o.left-low z j q g))

    pub looked_all : left ≡ 0 → shown ≡ forced_among words first set unset s
    unfolding forced_among
    looked_all z = λ i. record { conflict = (none bare shown.conflict ∙ o.conflicts) i; positive = word true i; negative = word false i }
      where
        none : (g : ℕ → Bool) (b : Bool) → b ≡ b || any (λ j. bit left j && g j) 64
        none g b = sym (ap (λ (x : Bool). b || x) (any_false _ 64 (λ j c. ap (λ (x : Bool). x && g j) (ap (λ (w : ℕ). bit w j) z ∙ bit-zero j))) ∙ or-false b)

        word : (sign : Bool) → side sign shown ≡ word_of (λ v. bit (side sign s) v || any (λ j. bit set j && only sign v j) 64) 32
        word sign =
            sym (word_of_bit (side sign shown) 32 (o.shown-low sign))
            ∙ word_of_cong _ _ 32 (λ v c. none (only sign v) (bit (side sign shown) v) ∙ o.forced sign v)
