-- Sets of rows as words of 64, and what code makes of them. They are the sets after a variable is set (`after_setting`,
-- `tally/proofs/AfterSetting`).
use Rattle.std.specs.Prelude.{ℕ, ◌+◌, ◌-◌, ◌*◌, Bool, true, false, ◌&&◌, ◌||◌, cond, List, [], ◌∷◌, eqb, ltb, get_or}
use Rattle.std.specs.Int.Bits.{bit_and, bit_or}
use Rattle.words.specs.Sets.{bit, put, any, count, word_of}
use Rattle.tally.specs.declared.Tally.{Tally}
use Rattle.tally.specs.declared.rows.Forced.{Forced}

-- ---- six words

-- word w being rows 64 w to 64 w + 63
abbrev pub six_words : (ℕ → ℕ) → List ℕ
six_words word = word 0 ∷ (word 1 ∷ (word 2 ∷ (word 3 ∷ (word 4 ∷ (word 5 ∷ [])))))

-- how many rows the set has
abbrev pub size_of : List ℕ → ℕ
size_of set =
    count (bit (get_or set 0 0)) 64 + count (bit (get_or set 1 0)) 64 + count (bit (get_or set 2 0)) 64
    + count (bit (get_or set 3 0)) 64 + count (bit (get_or set 4 0)) 64 + count (bit (get_or set 5 0)) 64

-- some row of a word of the set passes, by its number
abbrev pub some_in : List ℕ → (ℕ → Bool) → ℕ → Bool
some_in set p w = any (λ j. bit (get_or set w 0) j && p (64 * w + j)) 64

-- this, or some row of the set passes
abbrev pub or_some : Bool → List ℕ → (ℕ → Bool) → Bool
or_some x set p = x || some_in set p 0 || some_in set p 1 || some_in set p 2 || some_in set p 3 || some_in set p 4 || some_in set p 5

-- ---- rows by number

-- the variables of the row that are of a set
abbrev pub variables_of : List ℕ → ℕ → ℕ → ℕ
variables_of words unset i = bit_and (bit_or (get_or words (2 * i) 0) (get_or words (2 * i + 1) 0)) unset

-- they are exactly k
abbrev pub variables_are : ℕ → List ℕ → ℕ → ℕ → Bool
variables_are k words unset i = eqb (count (bit (variables_of words unset i)) 32) k

-- the row's word of this sign
abbrev pub word_of_sign : Bool → List ℕ → ℕ → ℕ
word_of_sign true words i = get_or words (2 * i) 0
word_of_sign false words i = get_or words (2 * i + 1) 0

-- they are exactly one, v, which the row holds with this sign
abbrev pub forces_only : Bool → List ℕ → ℕ → ℕ → ℕ → Bool
forces_only sign words unset v i = variables_are 1 words unset i
    && (bit (word_of_sign sign words i) v && bit (variables_of words unset i) v)

-- ---- what rows show

-- with one more row of these words
abbrev pub with_row : Forced → ℕ → ℕ → ℕ → Forced
with_row s positive negative unset =
    let variables = bit_and (bit_or positive negative) unset in
    cond (eqb variables 0) (record { conflict = true; positive = s.positive; negative = s.negative })
    (cond (eqb (count (bit variables) 32) 1)
    (record {
      conflict = s.conflict;
      positive = bit_or s.positive (bit_and positive variables);
      negative = bit_or s.negative (bit_and negative variables);
    })
    s)

-- with rows of a set of 64 from `first` on
unfoldable pub forced_among : List ℕ → ℕ → ℕ → ℕ → Forced → Forced
forced_among words first set unset s = record {
  conflict = s.conflict || any (λ j. bit set j && variables_are 0 words unset (first + j)) 64;
  positive = word_of (λ v. bit s.positive v || any (λ j. bit set j && forces_only true words unset v (first + j)) 64) 32;
  negative = word_of (λ v. bit s.negative v || any (λ j. bit set j && forces_only false words unset v (first + j)) 64) 32;
}

-- with rows of a set
unfoldable pub forced_in : List ℕ → List ℕ → ℕ → Forced → Forced
forced_in words set unset s = record {
  conflict = or_some s.conflict set (variables_are 0 words unset);
  positive = word_of (λ v. or_some (bit s.positive v) set (forces_only true words unset v)) 32;
  negative = word_of (λ v. or_some (bit s.negative v) set (forces_only false words unset v)) 32;
}

-- a tally of these unsatisfied rows
unfoldable pub gathered : List ℕ → ℕ → ℕ → ℕ → List ℕ → List ℕ → Tally
unfolding forced_in
gathered words unset positive negative unsatisfied look =
    let shown = forced_in words look unset (record { conflict = false; positive = positive; negative = negative }) in
    record {
      number = size_of unsatisfied;
      conflict = shown.conflict;
      unsatisfied = unsatisfied;
      positive = shown.positive;
      negative = shown.negative;
    }

-- ---- a literal is made true

-- the rows of a set that do not hold the literal, by its number in the index
abbrev pub rows_without : List ℕ → List ℕ → ℕ → List ℕ
rows_without set index l = six_words (λ w. bit_and (get_or set w 0) (18446744073709551615 - get_or index (6 * l + w) 0))

-- those that hold it
abbrev pub rows_holding : List ℕ → List ℕ → ℕ → List ℕ
rows_holding set index l = six_words (λ w. bit_and (get_or set w 0) (get_or index (6 * l + w) 0))

-- `unset` being the variables then free
unfoldable pub all_after : List ℕ → List ℕ → ℕ → ℕ → ℕ → Tally → Tally
unfolding gathered
all_after words index own other unset tally =
    let still = rows_without tally.unsatisfied index own in
    gathered words unset (bit_and tally.positive unset) (bit_and tally.negative unset) still (rows_holding still index other)

-- T and F as they were before; no variable is 32 or more, and with such a v the tally stays as it is
unfoldable pub tally_after : List ℕ → List ℕ → ℕ → ℕ → ℕ → Bool → Tally → Tally
unfolding all_after
tally_after words index t f v positive tally =
    let unset = 4294967295 - put (bit_or t f) v in
    cond (ltb v 32) (cond positive (all_after words index v (32 + v) unset tally) (all_after words index (32 + v) v unset tally)) tally
