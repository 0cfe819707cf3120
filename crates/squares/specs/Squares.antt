-- A square of 32 rows by 32 variables: document 02, "Columns before rows". It is two planes of 32 words, positive before negative; word i
-- of a plane holds variable i + 1 over the rows, the first row in the lowest bit.
-- Ask: Is the positive plane first, variable 1's word first, the first row in the lowest bit?
use Rattle.std.specs.Prelude.{ℕ, zero, suc, ◌+◌, ◌*◌, List, [], ◌∷◌, get_or}
use Rattle.words.specs.Sets.{bit, word_of}

-- f at the k numbers from i on
abbrev pub tabulate : (ℕ → ℕ) → ℕ → ℕ → List ℕ
tabulate f i zero = []
tabulate f i (suc k) = f i ∷ tabulate f (suc i) k

-- bit i of each of 32 words, the first word's lowest; a word that is not there has no bits
unfoldable pub column : List ℕ → ℕ → ℕ
column words i = word_of (λ j. bit (get_or words j 0) i) 32

-- the columns of 32 words
abbrev pub transposed : List ℕ → List ℕ
transposed words = tabulate (column words) 0 32

-- one sign's words of the 32 rows of square s, sign 0 the positive and 1 the negative, from a table's words, two a row; a missing row is
-- zero bits
abbrev pub sign_words : List ℕ → ℕ → ℕ → List ℕ
sign_words table s sign = tabulate (λ j. get_or table (64 * s + 2 * j + sign) 0) 0 32

-- the two planes of square s
abbrev pub square_at : List ℕ → ℕ → List (List ℕ)
square_at table s = transposed (sign_words table s 0) ∷ transposed (sign_words table s 1) ∷ []

-- ---- back

-- a plane's 32 words, from the words of all squares
abbrev pub plane_at : List ℕ → ℕ → ℕ → List ℕ
plane_at planes s sign = tabulate (λ i. get_or planes (64 * s + 32 * sign + i) 0) 0 32

-- the rows of square s: their positive words and their negative words
abbrev pub square_rows : List ℕ → ℕ → List (List ℕ)
square_rows planes s = transposed (plane_at planes s 0) ∷ transposed (plane_at planes s 1) ∷ []
