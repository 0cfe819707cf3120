-- Steps that exchange one binary digit of the number of a word and of the place in it. The crate's own functions go by them.
use Rattle.std.specs.Prelude.{ℕ, ◌+◌, ◌-◌, ◌*◌, ◌/◌, ◌%◌, ◌^◌, Bool, not, ◌&&◌, cond, List, eqb, ltb, leb, get_or}
use Rattle.words.specs.Booleans.{imp, ◌⊕◌}
use Rattle.words.specs.Sets.{bit, all, word_of}
use Rattle.squares.specs.Squares.{tabulate}

-- the digit of weight d
unfoldable pub odd : ℕ → ℕ → Bool
odd d x = eqb (x / d % 2) 1

-- two words after the step: the places whose digit is 0 are the first word's, the others the second one's
unfoldable pub low_word : ℕ → ℕ → ℕ → ℕ
unfolding odd
low_word a b d = word_of (λ c. cond (odd d c) (bit b (c - d)) (bit a c)) 32

unfoldable pub high_word : ℕ → ℕ → ℕ → ℕ
unfolding odd
high_word a b d = word_of (λ c. cond (odd d c) (bit b c) (bit a (c + d))) 32

-- word k after the step, from those at k / 2 and 16 after it
unfoldable pub mixed_word : List ℕ → ℕ → ℕ → ℕ
unfolding low_word high_word
mixed_word words d k =
    let a = get_or words (k / 2) 0 in
    let b = get_or words (k / 2 + 16) 0 in
    cond (eqb (k % 2) 1) (high_word a b d) (low_word a b d)

abbrev pub staged : List ℕ → ℕ → List ℕ
staged words d = tabulate (mixed_word words d) 0 32

-- what a distance and its mask have to pass at place c
unfoldable pub fine_at : ℕ → ℕ → ℕ → Bool
unfolding odd
fine_at d mask c =
    (bit mask c ⊕ odd d c)
    && imp (odd d c) (leb d c && not (odd d (c - d)))
    && imp (not (odd d c)) (imp (leb d c) (odd d (c - d)))

-- the mask has the places below 32 whose digit of weight d is 0
unfoldable pub fine : ℕ → ℕ → Bool
unfolding fine_at all
fine d mask = ltb 0 d && ltb mask (2 ^ (32 - d)) && all (fine_at d mask) 32

-- 32 words from a place on, at a distance from each other
abbrev pub picked : List ℕ → ℕ → ℕ → List ℕ
picked words at step = tabulate (λ j. get_or words (at + step * j) 0) 0 32
