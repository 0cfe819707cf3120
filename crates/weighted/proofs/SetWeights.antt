-- The weights of a set of rows: one row after the other, and those of the set of unsatisfied rows are the weights over all rows.
use mathlib.Core.Path.{◌≡◌, refl, sym, ap, ap₂, ◌∙◌, subst}
use mathlib.Core.Bool.{Bool, true, false, ◌&&◌, cond}
use mathlib.Core.List.{List}
use Prim.Native.Nat.{ℕ, zero, suc, ◌+◌, ◌-◌, ◌*◌, ◌^◌, ◌≤◌, ◌<◌}
use native.Mathlib.Nat.{not-suc-le-zero}
use native.Mathlib.Omega.{arith}
use lib.Bits.{bit_and, bit_or, and_le_r}
use lib.Count.{ones, ones-le}
use lib.ListN.{get_or}
use lib.Pow.{pow_mono}
use lib.Ieee.{Float, nan, binary64, of_bits}
use borrow.Author.Tests.{eq-eqb, ne_eqb}
use Rattle.words.specs.declared.Row.{Row}
use Rattle.words.specs.Sets.{bit, count, lowest}
use Rattle.words.proofs.Truth.{on}
use Rattle.words.proofs.Upto.{count_cong}
use Rattle.words.proofs.Bits.{bit-zero}
use Rattle.words.proofs.Operations.{count_word}
use Rattle.tables.specs.Rows.{satisfied, free_in, row_at, rows_from}
use Rattle.tables.proofs.Rows.{unsatisfied-literals}
use Rattle.occurrences.specs.Index.{at, row_set}
use Rattle.occurrences.proofs.IndexLaws.{set_at}
use Rattle.occurrences.proofs.SetLaws.{word-bit}
use Rattle.tally.specs.Tallies.{unmet}
use Rattle.tally.specs.Words.{variables_of}
use Rattle.tally.proofs.WordLaws.{unset-bit}
use Rattle.tally.proofs.ExactTally.{variables_bit}
use Rattle.tally.proofs.Looking.{row_low, has_row, less-bit}
use Rattle.weighted.specs.Weights.{share, weight}
use Rattle.weighted.specs.Floats.{scaled, Weighs, Raised, Adds, sum_below, row_share, word_weight, set_weight}
use Rattle.weighted.proofs.Weighing.{raised_by, scaled-zero}

-- ---- sums

sum_cong : (h h' : ℕ → ℕ) (k : ℕ) → ((i : ℕ) → i < k → h i ≡ h' i) → sum_below h k ≡ sum_below h' k
unfolding sum_below
sum_cong h h' zero e = refl
sum_cong h h' (suc k) e = ap₂ ◌+◌ (e zero (omega arith)) (sum_cong (λ i. h (suc i)) (λ i. h' (suc i)) k (λ i b. e (suc i) (omega arith)))

sum-zero : (h : ℕ → ℕ) (k : ℕ) → ((i : ℕ) → h i ≡ 0) → sum_below h k ≡ 0
unfolding sum_below
sum-zero h zero e = refl
sum-zero h (suc k) e = omega (arith, e zero, sum-zero (λ i. h (suc i)) k (λ i. e (suc i)))

sum_le : (h : ℕ → ℕ) (k : ℕ) → ((i : ℕ) → h i ≤ 2 ^ 32) → sum_below h k ≤ k * 2 ^ 32
unfolding sum_below
sum_le h zero e = omega arith
sum_le h (suc k) e = omega (arith, e zero, sum_le (λ i. h (suc i)) k (λ i. e (suc i)))

sum-add : (h : ℕ → ℕ) (a b : ℕ) → sum_below h (a + b) ≡ sum_below h a + sum_below (λ i. h (a + i)) b
unfolding sum_below
sum-add h zero b =
    let e : 0 + b ≡ b = omega arith in
    ap (sum_below h) e ∙ sum_cong h (λ i. h (0 + i)) b (λ i c. let z : i ≡ 0 + i = omega arith in ap h z) ∙ omega arith
sum-add h (suc a) b =
    let e : suc a + b ≡ suc (a + b) = omega arith in
    ap (sum_below h) e
    ∙ omega (
      arith,
      sum-add (λ i. h (suc i)) a b,
      sum_cong (λ i. h (suc (a + i))) (λ i. h (suc a + i)) b (λ i c. let z : suc (a + i) ≡ suc a + i = omega arith in ap h z),
    )

sum-none : (h : ℕ → ℕ) → sum_below h 0 ≡ 0
unfolding sum_below
sum-none h = refl

-- of 64 numbers each
sum-six : (h : ℕ → ℕ) → let at : ℕ → ℕ = λ w. sum_below (λ j. h (64 * w + j)) 64 in at 0 + at 1 + at 2 + at 3 + at 4 + at 5 ≡ sum_below h 384
sum-six h =
    omega (arith, sum-none h, sum-add h 0 64, sum-add h 64 64, sum-add h 128 64, sum-add h 192 64, sum-add h 256 64, sum-add h 320 64)

-- one of the numbers taken out
sum-without : (h h' : ℕ → ℕ) (k j : ℕ) → j < k → h' j ≡ 0 → ((i : ℕ) → (i ≡ j → ⊥) → h i ≡ h' i) → sum_below h k ≡ h j + sum_below h' k
unfolding sum_below
sum-without h h' zero j b z e = absurd (not-suc-le-zero b)
sum-without h h' (suc k) zero b z e =
    omega (arith, z, sum_cong (λ i. h (suc i)) (λ i. h' (suc i)) k (λ i c. e (suc i) (λ q. omega arith)))
sum-without h h' (suc k) (suc j) b z e =
    omega (
      arith,
      e zero (λ q. omega arith),
      sum-without (λ i. h (suc i)) (λ i. h' (suc i)) k j (omega arith) z (λ i n. e (suc i) (λ q. n (omega arith))),
    )

-- ---- the rows of a word

row_le : (words : List ℕ) (unset i v : ℕ) → row_share words unset i v ≤ 2 ^ 32
row_le words unset i v =
    on (bit (variables_of words unset i) v)
    (λ e. let l : 32 - count (bit (variables_of words unset i)) 32 ≤ 32 = omega arith in rw e (pow_mono l))
    (λ e. rw e (omega arith))

word_le : (words : List ℕ) (first set unset v : ℕ) → word_weight words first set unset v ≤ 64 * 2 ^ 32
unfolding word_weight
word_le words first set unset v =
    sum_le (λ j. cond (bit set j) (row_share words unset (first + j) v) 0) 64
    (λ j. on (bit set j) (λ e. rw e (row_le words unset (first + j) v)) (λ e. rw e (omega arith)))

-- one row: its free variables are at most 32, and raising the floats by them adds what the row adds
module _ (words : List ℕ) (unset i : ℕ) (low : unset < 2 ^ 32) where
  abbrev x : ℕ
  x = variables_of words unset i

  x-low : x < 2 ^ 32
  x-low = omega (arith, low, and_le_r (bit_or (get_or words (2 * i) 0) (get_or words (2 * i + 1) 0)) unset)

  pub few_ones : ones x ≤ 32
  few_ones = ones-le 32 x x-low

  pub raised-row : (held next : List Float) (gain : Float) → gain ≡ scaled (2 ^ (32 - ones x)) → Raised held x gain next
      → (k : ℕ → ℕ) → Weighs held k → ((v : ℕ) → v < 32 → k v + row_share words unset i v < 2 ^ 53) → Weighs next (λ v. k v + row_share words unset i v)
  raised-row held next gain e raised k h small =
      let g : gain ≡ scaled (2 ^ (32 - count (bit x) 32)) = e ∙ ap (λ (c : ℕ). scaled (2 ^ (32 - c))) (sym (count_word 32 x x-low)) in
      raised_by x (2 ^ (32 - count (bit x) 32)) held next k h small (subst (λ (y : Float). Raised held x y next) g raised)

module _ (words : List ℕ) (first unset : ℕ) where
  -- nothing is left
  pub word_none : (left : ℕ) → left ≡ 0 → (v : ℕ) → word_weight words first left unset v ≡ 0
  unfolding word_weight
  word_none left z v =
      sum-zero (λ j. cond (bit left j) (row_share words unset (first + j) v) 0) 64
      (λ j. ap (λ (b : Bool). cond b (row_share words unset (first + j) v) 0) (ap (λ (w : ℕ). bit w j) z ∙ bit-zero j))

  -- the lowest row of what is left, and the rest
  pub word_first : (left : ℕ) → left < 2 ^ 64 → (left ≡ 0 → ⊥) → (j : ℕ) → j ≡ lowest (bit left) 64 → (v : ℕ)
      → word_weight words first left unset v ≡ row_share words unset (first + j) v + word_weight words first (bit_and left (left - 1)) unset v
  unfolding word_weight
  word_first left low z j q v =
      sum-without (λ i. cond (bit left i) (g i) 0) (λ i. cond (bit (bit_and left (left - 1)) i) (g i) 0) 64 j (row_low left low z j q)
      (rw (less-bit left low z j q j, has_row left low z j q, eq-eqb j j refl))
      (λ i n. rw (less-bit left low z j q i, ne_eqb i j n) (ap (λ (b : Bool). cond b (g i) 0) (keep (bit left i))))
      ∙ ap (λ (b : Bool). cond b (g j) 0 + sum_below (λ i. cond (bit (bit_and left (left - 1)) i) (g i) 0) 64) (has_row left low z j q)
    where
      g : ℕ → ℕ
      g i = row_share words unset (first + i) v

      keep : (b : Bool) → b ≡ b && true
      keep true = refl
      keep false = refl

-- ---- the rows of a set

-- word after word from nothing: the floats are what the set adds
pub weigh_words : (words set : List ℕ) (unset : ℕ) (none a b c d e r : List Float) → ((i : ℕ) → i < 32 → get_or none i nan ≡ of_bits binary64 0)
    → Adds (word_weight words 0 (get_or set 0 0) unset) none a → Adds (word_weight words 64 (get_or set 1 0) unset) a b
    → Adds (word_weight words 128 (get_or set 2 0) unset) b c → Adds (word_weight words 192 (get_or set 3 0) unset) c d
    → Adds (word_weight words 256 (get_or set 4 0) unset) d e → Adds (word_weight words 320 (get_or set 5 0) unset) e r
    → Weighs r (set_weight words set unset)
unfolding Adds Weighs set_weight
weigh_words words set unset none a b c d e r z one two three four five six i h =
    let w : ℕ → ℕ → ℕ = λ k v. word_weight words (64 * k) (get_or set k 0) unset v in
    let le : (k v : ℕ) → w k v ≤ 64 * 2 ^ 32 = λ k v. word_le words (64 * k) (get_or set k 0) unset v in
    let m = 64 * 2 ^ 32 in
    let all : (v : ℕ) → (w 0 v ≤ m) × (w 1 v ≤ m) × (w 2 v ≤ m) × (w 3 v ≤ m) × (w 4 v ≤ m) × (w 5 v ≤ m) =
    λ v. (le 0 v, le 1 v, le 2 v, le 3 v, le 4 v, le 5 v) in
    let w₁ : ℕ → ℕ = λ v. 0 + w 0 v in
    let w₂ : ℕ → ℕ = λ v. w₁ v + w 1 v in
    let w₃ : ℕ → ℕ = λ v. w₂ v + w 2 v in
    let w₄ : ℕ → ℕ = λ v. w₃ v + w 3 v in
    let w₅ : ℕ → ℕ = λ v. w₄ v + w 4 v in
    six w₅ (λ v. omega (arith, all v))
    (five w₄ (λ v. omega (arith, all v))
    (four w₃ (λ v. omega (arith, all v))
    (three w₂ (λ v. omega (arith, all v))
    (two w₁ (λ v. omega (arith, all v))
    (one (λ v. 0) (λ v. omega (arith, all v)) (λ j k. z j k ∙ scaled-zero)))))) i h
    ∙ ap scaled (omega arith)

-- no weight reaches 2 ^ 53
pub set-small : (words set : List ℕ) (unset v : ℕ) → set_weight words set unset v < 2 ^ 53
unfolding set_weight
set-small words set unset v =
    let le : (first k : ℕ) → word_weight words first (get_or set k 0) unset v ≤ 64 * 2 ^ 32 = λ first k. word_le words first (get_or set k 0) unset v in
    omega (arith, le 0 0, le 64 1, le 128 2, le 192 3, le 256 4, le 320 5)

-- ---- the unsatisfied rows

module _ (words : List ℕ) (t f : ℕ) (ht : t < 2 ^ 32) (hf : f < 2 ^ 32) where
  abbrev unset : ℕ
  unset = 4294967295 - bit_or t f

  module _ (v : ℕ) (b : v < 32) where
    -- a row's share, by its number
    share-is : (few : 0 ≤ 384) (i : ℕ) → share 32 t f (row_at words i) v ≡ cond (unmet 32 t f (row_at words i)) (row_share words unset i v) 0
    unfolding share
    share-is few i =
        let r = row_at words i in
        let free-is = variables_bit words 0 few t f unset (unset-bit t f ht hf) i in
        on (satisfied 32 r t f)
        (λ e. rw e)
        (λ e.
        rw e
        (ap₂ (λ (x : Bool) (k : ℕ). cond x (2 ^ (32 - k)) 0) (sym (free-is v b))
        (unsatisfied-literals 32 r t f e ∙ sym (count_cong (bit (variables_of words unset i)) (λ u. free_in r t f u) 32 free-is))))

    -- rows from j on, by their numbers
    weight-at : (j k m : ℕ) → k ≤ m → weight 32 (rows_from words j k) t f v
        ≡ sum_below (λ i. cond (at (unmet 32 t f) (rows_from words j k) i) (row_share words unset (j + i) v) 0) m
    unfolding at weight sum_below
    weight-at j zero m h = sym (sum-zero _ m (λ i. refl))
    weight-at j (suc k) zero h = absurd (not-suc-le-zero h)
    weight-at j (suc k) (suc m) h =
        let p = at (unmet 32 t f) (rows_from words (suc j) k) in
        let z : j ≡ j + 0 = omega arith in
        ap₂ ◌+◌
        (share-is (omega arith) j ∙ ap (λ (i : ℕ). cond (unmet 32 t f (row_at words j)) (row_share words unset i v) 0) z)
        (weight-at (suc j) k m (omega arith)
        ∙ sum_cong (λ i. cond (p i) (row_share words unset (suc j + i) v) 0) (λ i. cond (p i) (row_share words unset (j + suc i) v) 0) m
        (λ i c. let e : suc j + i ≡ j + suc i = omega arith in ap (λ (x : ℕ). cond (p i) (row_share words unset x v) 0) e))

    module _ (m : ℕ) (few : m ≤ 384) where
      abbrev rows : List Row
      rows = rows_from words 0 m

      abbrev unmet_rows : List ℕ
      unmet_rows = row_set (unmet 32 t f) rows

      -- what row i adds, if it is unsatisfied
      h : ℕ → ℕ
      h i = cond (at (unmet 32 t f) rows i) (row_share words unset i v) 0

      word : (w : ℕ) → w < 6 → word_weight words (64 * w) (get_or unmet_rows w 0) unset v ≡ sum_below (λ j. h (64 * w + j)) 64
      unfolding word_weight h
      word w c =
          sum_cong _ _ 64
          (λ j d. ap (λ (x : Bool). cond x (row_share words unset (64 * w + j) v) 0)
          (ap (λ (s : ℕ). bit s j) (set_at rows (unmet 32 t f) w c) ∙ word-bit (unmet 32 t f) rows w j d))

      all : weight 32 rows t f v ≡ sum_below h 384
      unfolding h
      all =
          weight-at 0 m 384 few
          ∙ sum_cong _ _ 384 (λ i c. let z : 0 + i ≡ i = omega arith in ap (λ (x : ℕ). cond (at (unmet 32 t f) rows i) (row_share words unset x v) 0) z)

      -- what the set of unsatisfied rows adds is the weight over all rows
      pub set_is : set_weight words unmet_rows unset v ≡ weight 32 rows t f v
      unfolding set_weight
      set_is =
          (λ i. word 0 (omega arith) i + word 1 (omega arith) i + word 2 (omega arith) i + word 3 (omega arith) i + word 4 (omega arith) i
          + word 5 (omega arith) i)
          ∙ sum-six h ∙ sym all
