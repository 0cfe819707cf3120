-- A row's literals in one word: its positive word, and above it the negative one. Bit by bit.
use mathlib.Core.Path.{◌≡◌, refl, sym, ap, ap₂, ◌∙◌}
use mathlib.Core.Bool.{Bool, true, false, ◌&&◌, ◌||◌, and-true, or-false}
use Prim.Native.Nat.{ℕ, ◌+◌, ◌*◌, ◌/◌, ◌%◌, ◌^◌, ◌<◌}
use native.Mathlib.Omega.{arith}
use lib.Dec.{eqb, ltb, lit≤}
use lib.Bits.{bit_or, or_zero_l, or_lt, and_shifted}
use lib.Pow.{pow-lt, shl_lt, shl_exact, shl-shr, shr-shr}
use borrow.Author.Tests.{ltb-true, ltb-false, eq-eqb}
use Rattle.words.specs.declared.Row.{Row}
use Rattle.words.specs.Sets.{bit, put}
use Rattle.words.proofs.Truth.{on}
use Rattle.words.proofs.Bits.{bit-or, bit-zero, bit-put}
use Rattle.words.proofs.Operations.{bit-and, bit_ext, bit_high}
use Rattle.words.proofs.WordOf.{bit_word_of, word_of_lt}
use Rattle.occurrences.specs.RowWords.{numbered, literals_of}

power_bit : (i : ℕ) → bit (2 ^ i) i ≡ true
unfolding put
power_bit i = ap (λ (x : ℕ). bit x i) (sym (or_zero_l (2 ^ i))) ∙ bit-put 0 i i ∙ rw (bit-zero i, eq-eqb i i refl)

-- `w << k`: none below k, the word's from k on
shl_low : (w k i : ℕ) → i < k → bit (w * 2 ^ k) i ≡ false
shl_low w k i h =
    sym (ap (λ (b : Bool). bit (w * 2 ^ k) i && b) (power_bit i) ∙ and-true (bit (w * 2 ^ k) i))
    ∙ sym (bit-and (w * 2 ^ k) (2 ^ i) i) ∙ ap (λ (x : ℕ). bit x i) (and_shifted w k (2 ^ i) (pow-lt h)) ∙ bit-zero i

shl_high : (w k i : ℕ) → bit (w * 2 ^ k) (k + i) ≡ bit w i
unfolding bit
shl_high w k i = ap (λ (x : ℕ). eqb (x % 2) 1) (sym (shr-shr (w * 2 ^ k) k i) ∙ ap (λ (x : ℕ). x / 2 ^ i) (shl-shr w k))

module _ (row : Row) (hp : row.positive < 2 ^ 32) (hn : row.negative < 2 ^ 32) where
  joined-bit : (l : ℕ) → l < 64 → bit (bit_or row.positive (row.negative * 2 ^ 32)) l ≡ numbered l row
  joined-bit l b =
      bit-or row.positive (row.negative * 2 ^ 32) l
      ∙ on (ltb l 32)
      (λ e.
      let z : l % 32 ≡ l = omega (arith, ltb-true l 32 e) in
      rw (e, z) (ap (λ (x : Bool). bit row.positive l || x) (shl_low row.negative 32 l (ltb-true l 32 e)) ∙ or-false _))
      (λ e.
      let z : l ≡ 32 + l % 32 = omega (arith, ltb-false l 32 e) in
      rw e (ap₂ (λ (x y : Bool). x || y) (bit_high 32 row.positive l hp (ltb-false l 32 e))
      (ap (bit (row.negative * 2 ^ 32)) z ∙ shl_high row.negative 32 (l % 32))))

  pub joined_is : bit_or row.positive ((row.negative * 2 ^ 32) % 2 ^ 64) ≡ literals_of row
  unfolding literals_of
  joined_is =
      ap (bit_or row.positive) (shl_exact 32 32 64 hn (lit≤ tt))
      ∙ bit_ext 64 _ _ (or_lt 64 row.positive (row.negative * 2 ^ 32) (omega arith) (shl_lt 32 32 hn)) (word_of_lt (λ l. numbered l row) 64)
      (λ l b. joined-bit l b ∙ sym (bit_word_of (λ l. numbered l row) 64 l b))
