-- Words by the tests that their bits agree with.
use mathlib.Core.Path.{◌≡◌, sym, ap, ◌∙◌}
use mathlib.Core.Bool.{Bool, not, ◌&&◌}
use mathlib.Core.List.{[], ◌∷◌}
use Prim.Native.Nat.{ℕ, ◌-◌, ◌^◌, ◌<◌}
use native.Mathlib.Omega.{arith}
use lib.Dec.{eqb}
use lib.Bits.{bit_and, bit_or, or_lt}
use Rattle.words.specs.Sets.{bit, any, word_of}
use Rattle.words.proofs.Truth.{not-or}
use Rattle.words.proofs.Last.{any_cong}
use Rattle.words.proofs.Bits.{bit-or}
use Rattle.words.proofs.Operations.{bit-and, bit_not, bit_ext, any_word}
use Rattle.words.proofs.WordOf.{bit_word_of, word_of_lt}
use Rattle.tables.specs.Rows.{free}
use Rattle.tally.specs.Words.{six_words}

-- a word is that of a test that its bits agree with
pub word-is : (w : ℕ) (p : ℕ → Bool) → w < 2 ^ 64 → ((i : ℕ) → i < 64 → bit w i ≡ p i) → w ≡ word_of p 64
word-is w p h e = bit_ext 64 w _ h (word_of_lt p 64) (λ i b. e i b ∙ sym (bit_word_of p 64 i b))

-- and is not 0 if some bit passes
pub some_is : (w : ℕ) (p : ℕ → Bool) → w < 2 ^ 64 → ((i : ℕ) → i < 64 → bit w i ≡ p i) → not (eqb w 0) ≡ any p 64
some_is w p h e = sym (any_word 64 w h) ∙ any_cong (λ i. bit w i) p 64 e

-- `a & !b`
pub bit-without : (a b i : ℕ) → b < 2 ^ 64 → i < 64 → bit (bit_and a (18446744073709551615 - b)) i ≡ bit a i && not (bit b i)
bit-without a b i h c = bit-and a (18446744073709551615 - b) i ∙ ap (λ (x : Bool). bit a i && x) (bit_not 64 b i h c)

-- six words, word by word
pub six_cong : (p q : ℕ → ℕ) → ((w : ℕ) → w < 6 → p w ≡ q w) → six_words p ≡ six_words q
six_cong p q e =
    λ i. e 0 (omega arith) i ∷ (e 1 (omega arith) i ∷ (e 2 (omega arith) i ∷ (e 3 (omega arith) i ∷ (e 4 (omega arith) i ∷ (e 5 (omega arith) i ∷ [])))))

-- `!(t | f)`
pub unset-bit : (t f : ℕ) → t < 2 ^ 32 → f < 2 ^ 32 → (v : ℕ) → v < 32 → bit (4294967295 - bit_or t f) v ≡ free t f v
unset-bit t f ht hf v b = bit_not 32 (bit_or t f) v (or_lt 32 t f ht hf) b ∙ ap not (bit-or t f v) ∙ not-or (bit t v) (bit f v)
