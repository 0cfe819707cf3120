-- All sets of rows from the index, T and F (`after_survey`, `tally/proofs/AfterSurvey`), and the rows of few free variables: what code
-- makes of the words.
use Rattle.std.specs.Prelude.{ℕ, ◌+◌, ◌-◌, ◌*◌, Bool, not, ◌&&◌, ◌||◌, List, leb, ltb, get_or}
use Rattle.std.specs.Int.Bits.{bit_or}
use Rattle.words.specs.Sets.{bit, any, count, word_of}
use Rattle.tables.specs.Rows.{free}
use Rattle.tally.specs.declared.Tally.{Tally}
use Rattle.tally.specs.declared.surveying.RowsSeen.{RowsSeen}
use Rattle.tally.specs.declared.surveying.RowsLeft.{RowsLeft}
use Rattle.tally.specs.Words.{six_words, gathered}

-- ---- one more variable

-- what is seen of 64 rows with one more variable, in T and in F or not: the rows of its two literals
abbrev pub with_variable : RowsSeen → Bool → Bool → ℕ → ℕ → RowsSeen
with_variable s t f positive negative = record {
  met = word_of (λ j. bit s.met j || (bit positive j && bit negative j || bit positive j && t || bit negative j && f)) 64;
  one = word_of (λ j. bit s.one j || ((not t && not f) && (bit positive j || bit negative j))) 64;
  two = word_of (λ j. bit s.two j || (bit s.one j && ((not t && not f) && (bit positive j || bit negative j)))) 64;
}

-- ---- what is seen

-- row 64 w + j holds the literal
abbrev pub listed : List ℕ → ℕ → ℕ → ℕ → Bool
listed index w j l = bit (get_or index (6 * l + w) 0) j

-- variable v satisfies the row
abbrev pub met_by : List ℕ → ℕ → ℕ → ℕ → ℕ → ℕ → Bool
met_by index t f w j v = listed index w j v && listed index w j (32 + v) || listed index w j v && bit t v
    || listed index w j (32 + v) && bit f v

-- variable v is free in the row
abbrev pub free_by : List ℕ → ℕ → ℕ → ℕ → ℕ → ℕ → Bool
free_by index t f w j v = free t f v && (listed index w j v || listed index w j (32 + v))

-- what the variables below k show of rows 64 w to 64 w + 63
abbrev pub seen_in : List ℕ → ℕ → ℕ → ℕ → ℕ → RowsSeen
seen_in index t f k w = record {
  met = word_of (λ j. any (met_by index t f w j) k) 64;
  one = word_of (λ j. any (free_by index t f w j) k) 64;
  two = word_of (λ j. leb 2 (count (free_by index t f w j) k)) 64;
}

-- ---- what is left

-- row 64 w + j is below the count, and no variable satisfies it
abbrev pub unmet_by : List ℕ → ℕ → ℕ → ℕ → ℕ → ℕ → Bool
unmet_by index rows t f w j = ltb (64 * w + j) rows && not (any (met_by index t f w j) 32)

-- and it holds at most one free variable
abbrev pub few_by : List ℕ → ℕ → ℕ → ℕ → ℕ → ℕ → Bool
few_by index rows t f w j = unmet_by index rows t f w j && not (leb 2 (count (free_by index t f w j) 32))

-- of rows 64 w to 64 w + 63
abbrev pub left_in : List ℕ → ℕ → ℕ → ℕ → ℕ → RowsLeft
left_in index rows t f w = record { unsatisfied = word_of (unmet_by index rows t f w) 64; few = word_of (few_by index rows t f w) 64 }

-- of all rows
unfoldable pub surveyed : List ℕ → List ℕ → ℕ → ℕ → ℕ → Tally
unfolding gathered
surveyed words index rows t f =
    gathered words (4294967295 - bit_or t f) 0 0
    (six_words (λ w. (left_in index rows t f w).unsatisfied)) (six_words (λ w. (left_in index rows t f w).few))
