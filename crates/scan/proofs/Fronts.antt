-- The rows of a buffer are its pairs of words, and its front holds as many rows as it has pairs.
use mathlib.Core.Path.{◌≡◌, refl, ap, ap₂, ◌∙◌}
use mathlib.Core.List.{List, [], ◌∷◌}
use Prim.Native.Nat.{ℕ, zero, suc, ◌+◌, ◌*◌, ◌/◌, ◌≤◌, ◌<◌}
use native.Mathlib.Omega.{arith}
use lib.ListN.{length, get_or, take, drop}
use lib.Seq.{get_or-take, length-take-le}
use Rattle.std.proofs.lemmas.List.{get_or-drop}
use Rattle.std.specs.Simd.{first_chunks}
use Rattle.tables.specs.Rows.{row_at, rows_from}
use Rattle.scan.specs.Rules.{rows_of_words}

front-rows : (words : List ℕ) (m i k : ℕ) → 2 * (i + k) ≤ m → rows_from (take m words) i k ≡ rows_from words i k
front-rows words m i zero h = refl
front-rows words m i (suc k) h =
    ap₂ ◌∷◌
    (ap₂ (λ (p q : ℕ). record { positive = p; negative = q }) (get_or-take m words (2 * i) 0 (omega arith)) (get_or-take m words (2 * i + 1) 0 (omega arith)))
    (front-rows words m (suc i) k (omega arith))

-- the first 2 × m words of a buffer that has so many are its first m rows
pub rows_in_front : (words : List ℕ) (m : ℕ) → 2 * m ≤ length words → rows_of_words (take (2 * m) words) ≡ rows_from words 0 m
rows_in_front words m h =
    let e : length (take (2 * m) words) / 2 ≡ m = omega (arith, length-take-le (2 * m) words h) in
    ap (λ (k : ℕ). rows_from (take (2 * m) words) 0 k) e ∙ front-rows words (2 * m) 0 m (omega arith)

-- word j of pair i
word-of_pair : (words : List ℕ) (k i j : ℕ) → i < k → j < 2 → get_or (get_or (first_chunks 2 k words) i []) j 0 ≡ get_or words (2 * i + j) 0
word-of_pair words zero i j h b = absurd (omega arith)
word-of_pair words (suc k) zero j h b = get_or-take 2 words j 0 b ∙ ap (λ (n : ℕ). get_or words n 0) (omega arith)
word-of_pair words (suc k) (suc i) j h b =
    word-of_pair (drop 2 words) k i j (omega arith) b ∙ get_or-drop 2 words (2 * i + j) 0 ∙ ap (λ (n : ℕ). get_or words n 0) (omega arith)

-- the row of pair i
pub row-of_pair : (words : List ℕ) (k i : ℕ) → i < k
    → record { positive = get_or (get_or (first_chunks 2 k words) i []) 0 0; negative = get_or (get_or (first_chunks 2 k words) i []) 1 0 } ≡ row_at words i
row-of_pair words k i h =
    ap₂ (λ (p q : ℕ). record { positive = p; negative = q })
    (word-of_pair words k i 0 h (omega arith) ∙ ap (λ (n : ℕ). get_or words n 0) (omega arith)) (word-of_pair words k i 1 h (omega arith))
