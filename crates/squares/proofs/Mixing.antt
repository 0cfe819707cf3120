-- Two words mixed by shifts and masks: bit by bit, a place's digit of weight d says from which word the bit is.
use mathlib.Core.Path.{◌≡◌, refl, sym, ap, ap₂, ◌∙◌, subst}
use mathlib.Core.Bool.{Bool, true, false, not, ◌&&◌, ◌||◌, cond, and-false, or-false}
use Prim.Native.Nat.{ℕ, ◌+◌, ◌-◌, ◌*◌, ◌/◌, ◌%◌, ◌^◌, ◌≤◌, ◌<◌}
use native.Mathlib.Nat.{add_comm, lt_of_le_of_lt}
use native.Mathlib.Omega.{arith}
use lib.Bits.{bit_and, bit_or, and_le_r, or_lt}
use lib.Dec.{ltb, leb}
use lib.Pow.{shl_exact, shl_lt}
use borrow.Author.Tests.{ltb-true, not-true, leb-true, le-leb}
use Rattle.words.specs.Booleans.{imp, ◌⊕◌}
use Rattle.words.specs.Sets.{bit}
use Rattle.words.proofs.Truth.{and_l, and_r, on, mp}
use Rattle.words.proofs.Upto.{all_e}
use Rattle.words.proofs.Bits.{bit-or}
use Rattle.words.proofs.Operations.{bit-and, bit_not, bit_ext, and-lt-left}
use Rattle.words.proofs.WordOf.{word_of_lt, bit_word_of}
use Rattle.squares.specs.Steps.{odd, low_word, high_word, fine_at, fine}
use Rattle.squares.proofs.Shifts.{bit_shl, bit_shr}

and-true : (b : Bool) → b && true ≡ b
and-true true = refl
and-true false = refl

one_of : (a b : Bool) → a ⊕ b ≡ true → a ≡ not b
one_of true b e = sym e
one_of false true e = refl
one_of false false e = e

-- what a fine distance and mask give at a place
record Fine (d mask c : ℕ) : Type 0 where
  pub masked : bit mask c ≡ not (odd d c)
  pub down : odd d c ≡ true → (d ≤ c) × (odd d (c - d) ≡ false)
  pub borrow : odd d c ≡ false → leb d c ≡ true → odd d (c - d) ≡ true

module _ (d mask : ℕ) (ok : fine d mask ≡ true) where
  mask_small : mask < 2 ^ (32 - d)
  unfolding fine
  mask_small = ltb-true mask (2 ^ (32 - d)) (and_r (ltb 0 d) _ (and_l (ltb 0 d && ltb mask (2 ^ (32 - d))) _ ok))

  at : (c : ℕ) → c < 32 → Fine d mask c
  unfolding fine fine_at
  at c b =
      let e = all_e (fine_at d mask) 32 (and_r (ltb 0 d && ltb mask (2 ^ (32 - d))) _ ok) c b in
      let p₁ = bit mask c ⊕ odd d c in
      let p₂ = imp (odd d c) (leb d c && not (odd d (c - d))) in
      let p₃ = imp (not (odd d c)) (imp (leb d c) (odd d (c - d))) in
      let e₂ = and_l (p₁ && p₂) p₃ e in
      record {
        masked = one_of (bit mask c) (odd d c) (and_l p₁ p₂ e₂);
        down = λ h. let x = mp (odd d c) (leb d c && not (odd d (c - d))) (and_r p₁ p₂ e₂) h in
            (leb-true d c (and_l (leb d c) _ x), not-true (odd d (c - d)) (and_r (leb d c) _ x));
        borrow = λ h k. mp (leb d c) (odd d (c - d)) (mp (not (odd d c)) (imp (leb d c) (odd d (c - d))) (and_r (p₁ && p₂) p₃ e) (ap not h)) k;
      }

  module _ (a b : ℕ) (hd : d < 32) (hm : mask < 2 ^ 32) (ha : a < 2 ^ 32) (hb : b < 2 ^ 32) where
    -- ---- the first of the two

    shifted : (bit_and b mask * 2 ^ d) % 2 ^ 32 ≡ bit_and b mask * 2 ^ d
    shifted = let e : (32 - d) + d ≡ 32 = omega arith in shl_exact (32 - d) d 32 (lt_of_le_of_lt (and_le_r b mask) mask_small) (omega arith)

    shifted_lt : bit_and b mask * 2 ^ d < 2 ^ 32
    shifted_lt = let e : (32 - d) + d ≡ 32 = omega arith in subst (λ (x : ℕ). bit_and b mask * 2 ^ d < 2 ^ x) e
        (shl_lt (32 - d) d (lt_of_le_of_lt (and_le_r b mask) mask_small))

    pub low-word : bit_or (bit_and a mask) ((bit_and b mask * 2 ^ d) % 2 ^ 32) ≡ low_word a b d
    unfolding low_word
    low-word =
        ap (bit_or (bit_and a mask)) shifted
        ∙ bit_ext 32 _ _ (or_lt 32 _ _ (and-lt-left 32 a mask ha) shifted_lt) (word_of_lt _ 32)
        (λ c l.
        bit-or (bit_and a mask) (bit_and b mask * 2 ^ d) c
        ∙ ap₂ ◌||◌ (bit-and a mask c ∙ ap (λ (x : Bool). bit a c && x) (at c l).masked)
        (bit_shl (bit_and b mask) d c ∙ ap (λ (x : Bool). cond (leb d c) x false) (bit-and b mask (c - d)))
        ∙ on (odd d c) (λ h. odd_place c l h) (λ h. even_place c l h)
        ∙ sym (bit_word_of (λ c. cond (odd d c) (bit b (c - d)) (bit a c)) 32 c l))
      where
        odd_place : (c : ℕ) → c < 32 → odd d c ≡ true
            → bit a c && not (odd d c) || cond (leb d c) (bit b (c - d) && bit mask (c - d)) false ≡ cond (odd d c) (bit b (c - d)) (bit a c)
        odd_place c l h =
            let w = (at c l).down h in
            let m : bit mask (c - d) ≡ true = (at (c - d) (omega arith)).masked ∙ ap not w.1 in
            rw (h, le-leb d c w.0, m, and-false (bit a c)) (and-true (bit b (c - d)))

        even_place : (c : ℕ) → c < 32 → odd d c ≡ false
            → bit a c && not (odd d c) || cond (leb d c) (bit b (c - d) && bit mask (c - d)) false ≡ cond (odd d c) (bit b (c - d)) (bit a c)
        even_place c l h =
            on (leb d c)
            (λ k. let m : bit mask (c - d) ≡ false = (at (c - d) (omega arith)).masked ∙ ap not ((at c l).borrow h k) in
            rw (h, k, m, and-false (bit b (c - d))) (or-false (bit a c && true) ∙ and-true (bit a c)))
            (λ k. rw (h, k) (or-false (bit a c && true) ∙ and-true (bit a c)))

    -- ---- the second

    pub high-word : bit_or (bit_and (a / 2 ^ d) mask) (bit_and b ((2 ^ 32 - 1) - mask)) ≡ high_word a b d
    unfolding high_word
    high-word =
        bit_ext 32 _ _ (or_lt 32 _ _ (lt_of_le_of_lt (and_le_r (a / 2 ^ d) mask) hm) (and-lt-left 32 b _ hb)) (word_of_lt _ 32)
        (λ c l.
        bit-or (bit_and (a / 2 ^ d) mask) (bit_and b ((2 ^ 32 - 1) - mask)) c
        ∙ ap₂ ◌||◌ (bit-and (a / 2 ^ d) mask c ∙ ap₂ ◌&&◌ (bit_shr a d c ∙ ap (bit a) (add_comm d c)) (at c l).masked)
        (bit-and b ((2 ^ 32 - 1) - mask) c ∙ ap (λ (x : Bool). bit b c && x) (bit_not 32 mask c hm l ∙ ap not (at c l).masked))
        ∙ both_places c (odd d c)
        ∙ sym (bit_word_of (λ c. cond (odd d c) (bit b c) (bit a (c + d))) 32 c l))
      where
        both_places : (c : ℕ) (o : Bool) → bit a (c + d) && not o || bit b c && not (not o) ≡ cond o (bit b c) (bit a (c + d))
        both_places c true = rw (and-false (bit a (c + d))) (and-true (bit b c))
        both_places c false = rw (and-false (bit b c)) (or-false (bit a (c + d) && true) ∙ and-true (bit a (c + d)))
