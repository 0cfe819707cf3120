-- The weights of rows, one row after the other: each held sum is exact, since it stays below 2 ^ 53.
use mathlib.Core.Path.{◌≡◌, refl, sym, ap, ◌∙◌}
use mathlib.Core.Bool.{Bool, true, false, not, ◌&&◌, cond}
use mathlib.Core.List.{List, [], ◌∷◌, ◌++◌}
use Prim.Native.Nat.{ℕ, zero, suc, ◌+◌, ◌-◌, ◌*◌, ◌^◌, ◌≤◌, ◌<◌}
use native.Mathlib.Nat.{add-zero, zero-add, add_assoc}
use native.Mathlib.Numerals.{add-one}
use native.Mathlib.Omega.{arith}
use lib.ListN.{get_or}
use lib.Dec.{ltb}
use lib.Pow.{pow_mono}
use lib.Ieee.{Float, nan, binary64, lt, round, of_bits}
use Rattle.words.specs.Sets.{bit}
use Rattle.words.proofs.Truth.{on}
use Rattle.words.proofs.Upto.{count_le}
use Rattle.words.proofs.WordOf.{bit_word_of}
use Rattle.words.specs.declared.Row.{Row}
use Rattle.tables.specs.declared.Judged.{Judged}
use Rattle.tables.specs.Rows.{satisfied, free_in, free_literals, judged, row_at, rows_from}
use Rattle.tables.proofs.Rows.{unsatisfied-literals}
use Rattle.weighted.specs.Weights.{share, weight, greatest, heaviest}
use Rattle.weighted.specs.Floats.{scaled, Weighs, Raised, Adds}
use Rattle.weighted.proofs.Exact.{scaled-add, scaled-lt}
use Rattle.weighted.proofs.Greatest.{greatest_cong}

-- ---- one row

-- raising the floats of a word's variables adds to each of them what they are raised by
pub raised_by : (x gain : ℕ) (ws next : List Float) (w : ℕ → ℕ) → Weighs ws w → ((i : ℕ) → i < 32 → w i + cond (bit x i) gain 0 < 2 ^ 53)
    → Raised ws x (scaled gain) next → Weighs next (λ i. w i + cond (bit x i) gain 0)
unfolding Weighs Raised
raised_by x gain ws next w hw small hr i b =
    hr i b
    ∙ on (bit x i)
    (λ q. let k : w i + gain < 2 ^ 53 = rw q at (small i b) in rw q (rw (hw i b) (scaled-add (w i) gain (omega arith) (omega arith))))
    (λ q. rw q (hw i b ∙ ap scaled (sym (add-zero (w i)))))

module _ (t f : ℕ) (r : Row) (j : Judged) (e : j ≡ judged 32 r t f) where
  satisfied-is : (b : Bool) → j.satisfied ≡ b → satisfied 32 r t f ≡ b
  satisfied-is b h = sym (ap (λ (x : Judged). x.satisfied) e) ∙ h

  literals-is : j.literals ≡ free_literals 32 r t f
  literals-is = ap (λ (x : Judged). x.literals) e

  -- a satisfied row adds nothing
  pub share-satisfied : j.satisfied ≡ true → (i : ℕ) → share 32 t f r i ≡ 0
  unfolding share
  share-satisfied h i = rw (satisfied-is true h)

  module _ (h : j.satisfied ≡ false) where
    -- an unsatisfied row is no padding, so it has at most 32 free literals
    pub literals-small : j.literals ≤ 32
    literals-small =
        rw (literals-is ∙ unsatisfied-literals 32 r t f (satisfied-is false h)) (count_le (λ i. free_in r t f i) 32)

    -- it adds a power of two to each of its free variables
    pub share_open : (i : ℕ) → i < 32 → share 32 t f r i ≡ cond (bit j.variables i) (2 ^ (32 - j.literals)) 0
    unfolding share
    share_open i b =
        rw (satisfied-is false h, literals-is)
        (ap (λ (x : Bool). cond x (2 ^ (32 - free_literals 32 r t f)) 0)
        (sym (ap (λ (x : Judged). bit x.variables i) e ∙ bit_word_of (λ i. free_in r t f i) 32 i b)))

    -- so raising the floats by it adds the row's share to each
    pub raised-share : (ws next : List Float) (w : ℕ → ℕ) → Weighs ws w → ((i : ℕ) → i < 32 → w i + share 32 t f r i < 2 ^ 53)
        → Raised ws j.variables (scaled (2 ^ (32 - j.literals))) next → Weighs next (λ i. w i + share 32 t f r i)
    unfolding Weighs
    raised-share ws next w hw small hr i b =
        raised_by j.variables (2 ^ (32 - j.literals)) ws next w hw (λ k c. omega (arith, small k c, share_open k c)) hr i b
        ∙ ap (λ (x : ℕ). scaled (w i + x)) (sym (share_open i b))

-- ---- one row after the other

-- the floats held and what is left to add weigh what those at the start and all that is to add weigh
abbrev pub Weighing : (ℕ → ℕ) → (ℕ → ℕ) → List Float → List Float → Type 0
Weighing total rest ws held =
    (w : ℕ → ℕ) → ((j : ℕ) → w j + total j < 2 ^ 53) → Weighs ws w → (k : ℕ → ℕ) × Weighs held k × ((j : ℕ) → k j + rest j ≡ w j + total j)

module _ (total : ℕ → ℕ) (ws : List Float) where
  pub weighing-start : Weighing total total ws ws
  weighing-start w small h = (w, h, λ j. refl)

  module _ (rest : ℕ → ℕ) (held : List Float) (s : Weighing total rest ws held) where
    -- a row whose share is added
    pub weighing-next : (share rest' : ℕ → ℕ) → ((j : ℕ) → rest j ≡ share j + rest' j) → (next : List Float)
        → ((k : ℕ → ℕ) → Weighs held k → ((j : ℕ) → j < 32 → k j + share j < 2 ^ 53) → Weighs next (λ j. k j + share j))
        → Weighing total rest' ws next
    weighing-next share rest' first next add_row w small hw =
        let x = s w small hw in (
          (λ j. x.0 j + share j),
          add_row x.0 x.1 (λ j b. omega (arith, x.2 j, first j, small j)),
          (λ j. omega (arith, x.2 j, first j)),
        )

    -- a row that adds nothing
    pub weighing-same : (rest' : ℕ → ℕ) → ((j : ℕ) → rest j ≡ rest' j) → Weighing total rest' ws held
    weighing-same rest' e w small hw = let x = s w small hw in (x.0, x.1, λ j. omega (arith, x.2 j, e j))

    pub weighing_end : ((j : ℕ) → rest j ≡ 0) → Adds total ws held
    unfolding Adds Weighs
    weighing_end z w small hw i b =
        let x = s w small hw in
        let q : x.0 i ≡ w i + total i = omega (arith, x.2 i, z i) in
        x.1 i b ∙ ap scaled q

-- ---- a table's rows

module _ (t f : ℕ) (words : List ℕ) (m : ℕ) where
  -- what the rows from i on add
  abbrev pub rest_from : ℕ → ℕ → ℕ
  rest_from i = weight 32 (rows_from words i (m - i)) t f

  pub rest_all : (j : ℕ) → rest_from 0 j ≡ weight 32 (rows_from words 0 m) t f j
  rest_all j = let e : m - 0 ≡ m = omega arith in rw e

  pub rest-none : (i : ℕ) → m ≤ i → (j : ℕ) → rest_from i j ≡ 0
  unfolding weight
  rest-none i h j = let e : m - i ≡ 0 = omega arith in rw e

  pub rest-first : (i : ℕ) → i < m → (j : ℕ) → rest_from i j ≡ share 32 t f (row_at words i) j + rest_from (i + 1) j
  unfolding weight
  rest-first i h j =
      let k : m - i ≡ suc (m - (i + 1)) = omega arith in
      ap (λ (x : ℕ). weight 32 (rows_from words i x) t f j) k
      ∙ ap (λ (x : ℕ). share 32 t f (row_at words i) j + weight 32 (rows_from words x (m - (i + 1))) t f j) (sym (add-one i))

-- ---- three tables

pub weight_append : (n t f : ℕ) (xs ys : List Row) (i : ℕ) → weight n (xs ++ ys) t f i ≡ weight n xs t f i + weight n ys t f i
unfolding weight
weight_append n t f [] ys i = sym (zero-add (weight n ys t f i))
weight_append n t f (r ∷ rs) ys i = ap (λ (x : ℕ). share n t f r i + x) (weight_append n t f rs ys i)
    ∙ sym (add_assoc (share n t f r i) (weight n rs t f i) (weight n ys t f i))

share_le : (n t f : ℕ) (r : Row) (i : ℕ) → share n t f r i ≤ 2 ^ 32
unfolding share
share_le n t f r i =
    on (not (satisfied n r t f) && free_in r t f i)
    (λ e. let l : 32 - free_literals n r t f ≤ 32 = omega arith in rw e (pow_mono l))
    (λ e. rw e (omega arith))

-- k rows weigh at most k
pub weight_le : (n t f : ℕ) (words : List ℕ) (at k i : ℕ) → weight n (rows_from words at k) t f i ≤ k * 2 ^ 32
unfolding weight
weight_le n t f words at zero i = omega arith
weight_le n t f words at (suc k) i = omega (arith, share_le n t f (row_at words at) i, weight_le n t f words (suc at) k i)

-- ---- from nothing

pub scaled-zero : of_bits binary64 0 ≡ scaled 0
unfolding scaled round of_bits
scaled-zero = refl

-- floats that are weights below 2 ^ 53 compare as these do, so they have the same greatest
pub heaviest_of : (r : List Float) (w : ℕ → ℕ) → ((i : ℕ) → i < 32 → w i < 2 ^ 53) → Weighs r w
    → greatest (λ i j. lt (get_or r i nan) (get_or r j nan)) 32 ≡ heaviest w 32
unfolding Weighs heaviest
heaviest_of r w small h =
    greatest_cong (λ i j. lt (get_or r i nan) (get_or r j nan)) (λ i j. ltb (w i) (w j)) 32
    (λ i j p q. rw (h i p, h j q) (scaled-lt (w i) (w j) (small i p) (small j q)))

-- three tables of at most 128 rows each
module _ (t f : ℕ) (left right public : List ℕ) (a b c : ℕ) (ha : a ≤ 128) (hb : b ≤ 128) (hc : c ≤ 128) where
  abbrev all : List Row
  all = rows_from left 0 a ++ (rows_from right 0 b ++ rows_from public 0 c)

  -- a variable's weight is the sum of its weights over each table's rows, each at most the number of rows
  weight-all : (i : ℕ)
      → (weight 32 all t f i ≡ weight 32 (rows_from left 0 a) t f i + weight 32 (rows_from right 0 b) t f i + weight 32 (rows_from public 0 c) t f i)
      × (weight 32 (rows_from left 0 a) t f i ≤ a * 2 ^ 32) × (weight 32 (rows_from right 0 b) t f i ≤ b * 2 ^ 32)
      × (weight 32 (rows_from public 0 c) t f i ≤ c * 2 ^ 32)
  weight-all i = (
    weight_append 32 t f (rows_from left 0 a) (rows_from right 0 b ++ rows_from public 0 c) i
        ∙ ap (λ (x : ℕ). weight 32 (rows_from left 0 a) t f i + x) (weight_append 32 t f (rows_from right 0 b) (rows_from public 0 c) i)
        ∙ sym (add_assoc (weight 32 (rows_from left 0 a) t f i) (weight 32 (rows_from right 0 b) t f i) (weight 32 (rows_from public 0 c) t f i)),
    weight_le 32 t f left 0 a i,
    weight_le 32 t f right 0 b i,
    weight_le 32 t f public 0 c i,
  )

  -- no weight reaches 2 ^ 53
  weight-small : (i : ℕ) → weight 32 all t f i < 2 ^ 53
  weight-small i = omega (arith, weight-all i)

  -- one table after the other from nothing: the floats are the weights over the rows of all tables
  pub weigh_all : (none first second r : List Float) → ((i : ℕ) → i < 32 → get_or none i nan ≡ of_bits binary64 0)
      → Adds (weight 32 (rows_from left 0 a) t f) none first → Adds (weight 32 (rows_from right 0 b) t f) first second
      → Adds (weight 32 (rows_from public 0 c) t f) second r
      → Weighs r (weight 32 all t f)
  unfolding Adds Weighs
  weigh_all none first second r z one two three i h =
      let w₁ : ℕ → ℕ = λ j. 0 + weight 32 (rows_from left 0 a) t f j in
      let w₂ : ℕ → ℕ = λ j. w₁ j + weight 32 (rows_from right 0 b) t f j in
      let e : w₂ i + weight 32 (rows_from public 0 c) t f i ≡ weight 32 all t f i = omega (arith, weight-all i) in
      three w₂ (λ j. omega (arith, weight-all j))
      (two w₁ (λ j. omega (arith, weight-all j))
      (one (λ j. 0) (λ j. omega (arith, weight-all j)) (λ j k. z j k ∙ scaled-zero))) i h
      ∙ ap scaled e

  -- so the heaviest by floats is the heaviest by weights
  pub heaviest-all : (r : List Float) → Weighs r (weight 32 all t f)
      → greatest (λ i j. lt (get_or r i nan) (get_or r j nan)) 32 ≡ heaviest (weight 32 all t f) 32
  heaviest-all r h = heaviest_of r (weight 32 all t f) (λ i b. weight-small i) h
