-- What the loop that judges words goes by: what is left is judged as the whole is.
use mathlib.Core.Path.{◌≡◌, refl, ap, sym, ◌∙◌}
use mathlib.Core.Bool.{Bool, true, false, ◌&&◌, cond, and-false}
use mathlib.Core.List.{List, [], ◌∷◌}
use Prim.Native.Nat.{ℕ, zero, suc, ◌+◌, ◌*◌, ◌/◌, ◌%◌, ◌^◌, ◌≤◌, ◌<◌}
use native.Mathlib.Omega.{arith}
use borrow.Author.Tests.{ltb-true, lt-ltb, le-ltb, le-leb, lt-leb, eqb-true, ne_eqb}
use lib.Dec.{ltb, leb, eqb}
use lib.ListN.{length, get_or, drop}
use Rattle.std.specs.Simd.{first_chunks}
use Rattle.words.proofs.Truth.{and_l, and_r, on}
use Rattle.gates.specs.Memory.{drives, accepted}
use Rattle.gates.proofs.InMemory.{accepted-length}
use Rattle.gates.proofs.Chunks.{drop-chunk}

-- words whose number is no multiple of 3 are not accepted
pub accepted_uneven : (m : ℕ) (ws : List ℕ) → (length ws % 3 ≡ 0 → ⊥) → accepted m ws ≡ false
accepted_uneven m ws h =
    on (accepted m ws) (λ e. absurd (h (omega (arith, accepted-length m ws e)))) (λ e. e)

-- beyond all words the number of wires does not matter
pub accepted_far : (m n : ℕ) (ws : List ℕ) → 2 ^ 32 ≤ m → 2 ^ 32 ≤ n → ((i : ℕ) → get_or ws i 0 < 2 ^ 32) → accepted m ws ≡ accepted n ws
unfolding accepted
accepted_far m n [] hm hn h = refl
accepted_far m n (k ∷ []) hm hn h = refl
accepted_far m n (k ∷ (a ∷ [])) hm hn h = refl
accepted_far m n (k ∷ (a ∷ (b ∷ ws))) hm hn h =
    rw (
      lt-ltb a m (omega (arith, h 1)),
      lt-ltb a n (omega (arith, h 1)),
      lt-ltb b m (omega (arith, h 2)),
      lt-ltb b n (omega (arith, h 2)),
      accepted_far (suc m) (suc n) ws (omega arith) (omega arith) (λ i. h (suc (suc (suc i)))),
    )

-- a gate whose first word, or whose second, names no earlier wire
pub first-late : (m k a b : ℕ) → m ≤ a → drives m k a b ≡ false
first-late m k a b h = rw (le-ltb a m h) (and-false (ltb k 3))

-- three words of which the first wire is an earlier one and the second is not may not drive wire m, whatever the kind
pub second-late : (m k a b : ℕ) → a < m → m ≤ b → drives m k a b ≡ false
second-late m k a b h l = rw (lt-ltb a m h, le-ltb b m l, ne_eqb b 0 (λ e. omega arith)) (ap (λ (t : Bool). ltb k 3 && t) (go (eqb k 2)) ∙ and-false (ltb k 3))
  where
    go : (t : Bool) → cond t false false ≡ false
    go true = refl
    go false = refl

-- kind and second word as one number: where both words name earlier wires, it says all that is left to judge
pub as_one : (m k a b : ℕ) → a < m → b < m → b < 2 ^ 32 → leb (k * 4294967296 + b) 8589934592 ≡ drives m k a b
as_one m zero a b h l u = rw (lt-ltb a m h, lt-ltb b m l) (le-leb (0 * 4294967296 + b) 8589934592 (omega arith))
as_one m (suc zero) a b h l u = rw (lt-ltb a m h, lt-ltb b m l) (le-leb (1 * 4294967296 + b) 8589934592 (omega arith))
as_one m (suc (suc zero)) a b h l u = rw (lt-ltb a m h) (go b)
  where
    go : (b : ℕ) → leb (8589934592 + b) 8589934592 ≡ eqb b 0
    go zero = refl
    go (suc b) = lt-leb (8589934592 + suc b) 8589934592 (omega arith) ∙ sym (ne_eqb (suc b) 0 (λ e. omega arith))
as_one m (suc (suc (suc k))) a b h l u =
    rw (le-ltb (suc (suc (suc k))) 3 (omega arith)) (lt-leb (suc (suc (suc k)) * 4294967296 + b) 8589934592 (omega arith))

-- chunk i and what is left: accepted after n + i wires just if that chunk may drive the next wire and the rest is accepted after it
pub accepted-chunk : (g : List ℕ) (cs : List (List ℕ)) (n i : ℕ) → cs ≡ first_chunks 3 (length g / 3) g → i < length g / 3
    → let word = get_or (get_or cs i []) in
    accepted (n + i) (drop (3 * i) g) ≡ drives (n + i) (word 0 0) (word 1 0) (word 2 0) && accepted (n + (i + 1)) (drop (3 * (i + 1)) g)
unfolding accepted
accepted-chunk g cs n i e h =
    let wire : n + (i + 1) ≡ suc (n + i) = omega arith in
    ap (accepted (n + i)) (drop-chunk g cs i e h) ∙ rw wire

-- fewer than three words are no gate: accepted if there are none
pub accepted_few : (m : ℕ) (ws : List ℕ) → length ws < 3 → accepted m ws ≡ eqb (length ws) 0
unfolding accepted
accepted_few m [] h = refl
accepted_few m (k ∷ []) h = refl
accepted_few m (k ∷ (a ∷ [])) h = refl
accepted_few m (k ∷ (a ∷ (b ∷ ws))) h = absurd (omega arith)

-- INV's second word is below m too, being 0
bound : (m k b : ℕ) → 0 < m → cond (eqb k 2) (eqb b 0) (ltb b m) ≡ true → b < m
bound m k b p = go (eqb k 2)
  where
    go : (t : Bool) → cond t (eqb b 0) (ltb b m) ≡ true → b < m
    go true e = omega (arith, eqb-true b 0 e)
    go false e = ltb-true b m e

-- a gate that may drive a wire is of a known kind and reads earlier wires
pub drives-below : (m k a b : ℕ) → drives m k a b ≡ true → (k < 3) × (a < m) × (b < m)
drives-below m k a b e =
    let e₁ = and_r (ltb k 3) _ e in
    let h = ltb-true a m (and_l _ _ e₁) in
    (ltb-true k 3 (and_l _ _ e), h, bound m k b (omega arith) (and_r (ltb a m) _ e₁))
