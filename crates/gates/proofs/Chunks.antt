-- Words taken three at a time: where the words of a chunk stand in the whole.
use Rattle.std.proofs.Common.{◌≡◌, ℕ, zero, suc, ◌+◌, ◌*◌, ◌/◌, ◌≤◌, ◌<◌, mul-zero, add-zero, refl, ap, ◌∙◌, arith}
use Rattle.std.proofs.Common.{List, [], ◌∷◌, length, get_or, take, drop, drop-cons}
use Rattle.std.proofs.lemmas.List.{drop-drop, get_or-drop, get_or-take}
use Rattle.std.specs.Simd.{first_chunks}

-- chunk i of k
pub first_chunks-at : {X : Type 0} (n k i : ℕ) (xs : List X) → i < k → get_or (first_chunks n k xs) i [] ≡ take n (drop (n * i) xs)
first_chunks-at n zero i xs h = absurd (omega arith)
first_chunks-at n (suc k) zero xs h = rw (mul-zero n) refl
first_chunks-at n (suc k) (suc i) xs h =
    first_chunks-at n k i (drop n xs) (omega arith) ∙ ap (take n) (drop-drop (n * i) n xs ∙ ap (λ j. drop j xs) (omega arith))

-- word j of chunk i
pub chunk_word : (n k i j : ℕ) (xs : List ℕ) → i < k → j < n → get_or (get_or (first_chunks n k xs) i []) j 0 ≡ get_or xs (n * i + j) 0
chunk_word n k i j xs hi hj =
    rw (first_chunks-at n k i xs hi) (get_or-take n (drop (n * i) xs) j 0 hj ∙ get_or-drop (n * i) xs j 0)

-- the three words at i, and the rest
drop-three : (g : List ℕ) (i : ℕ) → i + 3 ≤ length g
    → drop i g ≡ get_or g i 0 ∷ (get_or g (i + 1) 0 ∷ (get_or g (i + 2) 0 ∷ drop (i + 3) g))
drop-three g i h =
    let e₁ : suc i ≡ i + 1 = omega arith in
    let e₂ : suc (i + 1) ≡ i + 2 = omega arith in
    let e₃ : suc (i + 2) ≡ i + 3 = omega arith in
    drop-cons g i 0 (omega arith)
    ∙ ap (λ (l : List ℕ). get_or g i 0 ∷ l)
    (ap (λ (j : ℕ). drop j g) e₁ ∙ drop-cons g (i + 1) 0 (omega arith)
    ∙ ap (λ (l : List ℕ). get_or g (i + 1) 0 ∷ l)
    (ap (λ (j : ℕ). drop j g) e₂ ∙ drop-cons g (i + 2) 0 (omega arith) ∙ ap (λ (j : ℕ). get_or g (i + 2) 0 ∷ drop j g) e₃))

-- the three words of chunk i, and what is left after it
pub drop-chunk : (g : List ℕ) (cs : List (List ℕ)) (i : ℕ) → cs ≡ first_chunks 3 (length g / 3) g → i < length g / 3
    → let word = get_or (get_or cs i []) in
    drop (3 * i) g ≡ word 0 0 ∷ (word 1 0 ∷ (word 2 0 ∷ drop (3 * (i + 1)) g))
drop-chunk g cs i e h =
    let k = length g / 3 in
    let e₀ = chunk_word 3 k i 0 g h (omega arith) in
    let e₁ = chunk_word 3 k i 1 g h (omega arith) in
    let e₂ = chunk_word 3 k i 2 g h (omega arith) in
    let next : 3 * (i + 1) ≡ 3 * i + 3 = omega arith in
    rw (e, e₀, e₁, e₂, next, add-zero) (drop-three g (3 * i) (omega arith))
