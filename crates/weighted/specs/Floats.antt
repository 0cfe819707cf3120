-- Weights as 64-bit floats, each exactly a whole number over 2 ^ 32.
use Rattle.std.specs.Prelude.{ℕ, zero, suc, ◌+◌, ◌-◌, ◌^◌, ◌<◌, ◌≡◌, false, cond, List, get_or, Float}
use Rattle.std.specs.Float.{nan, binary64}
use Rattle.std.specs.Float.Ieee.{round, add}
use Rattle.words.specs.Sets.{bit, count}
use Rattle.tally.specs.Words.{variables_of}

-- the float that is w / 2 ^ 32
unfoldable pub scaled : ℕ → Float
scaled w = round binary64 false w 4294967296

-- the floats are these weights, a variable each
unfoldable pub Weighs : List Float → (ℕ → ℕ) → Type 0
unfolding scaled
Weighs floats w = (i : ℕ) → i < 32 → get_or floats i nan ≡ scaled (w i)

-- the floats with gain added at each variable of the word
unfoldable pub Raised : List Float → ℕ → Float → List Float → Type 0
Raised floats word gain r = (i : ℕ) → i < 32
    → get_or r i nan ≡ cond (bit word i) (add binary64 (get_or floats i nan) gain) (get_or floats i nan)

-- r is floats and these weights, wherever the sums stay below 2 ^ 53
unfoldable pub Adds : (ℕ → ℕ) → List Float → List Float → Type 0
unfolding Weighs
Adds more floats r = (w : ℕ → ℕ) → ((i : ℕ) → w i + more i < 2 ^ 53) → Weighs floats w → Weighs r (λ i. w i + more i)

-- ---- rows by number, two words each

-- the sum of the numbers h 0 to h (k - 1)
unfoldable pub sum_below : (ℕ → ℕ) → ℕ → ℕ
sum_below h zero = 0
sum_below h (suc k) = h zero + sum_below (λ i. h (suc i)) k

-- what row i adds to variable v, `unset` being the free variables and the row unsatisfied, so that each is one literal
abbrev pub row_share : List ℕ → ℕ → ℕ → ℕ → ℕ
row_share words unset i v = cond (bit (variables_of words unset i) v) (2 ^ (32 - count (bit (variables_of words unset i)) 32)) 0

-- what a set of the 64 rows from `first` on adds
unfoldable pub word_weight : List ℕ → ℕ → ℕ → ℕ → ℕ → ℕ
word_weight words first set unset v = sum_below (λ j. cond (bit set j) (row_share words unset (first + j) v) 0) 64

-- what a set of all rows adds
unfoldable pub set_weight : List ℕ → List ℕ → ℕ → ℕ → ℕ
set_weight words set unset v =
    word_weight words 0 (get_or set 0 0) unset v + word_weight words 64 (get_or set 1 0) unset v
    + word_weight words 128 (get_or set 2 0) unset v + word_weight words 192 (get_or set 3 0) unset v
    + word_weight words 256 (get_or set 4 0) unset v + word_weight words 320 (get_or set 5 0) unset v
