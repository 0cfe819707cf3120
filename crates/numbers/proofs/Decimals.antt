-- Digits one at a time, with values held up to 1000: two values that are held alike go on alike.
use Rattle.std.specs.Prelude.{Option, Some, None, nat_eq}
use lib.Pointwise.{pointwise}
use mathlib.Core.Path.{◌≡◌, refl, sym, ap, ◌∙◌}
use mathlib.Core.Bool.{Bool, true, false, true≢false, and-true}
use mathlib.Core.List.{List, [], ◌∷◌}
use Prim.Native.Nat.{ℕ, zero, suc, ◌+◌, ◌-◌, ◌*◌, ◌≤◌, ◌<◌}
use native.Mathlib.Numerals.{add-one}
use native.Mathlib.Omega.{arith}
use lib.Dec.{eqb, leb}
use lib.ListN.{length, take, drop, get_or, drop_of_length-le}
use lib.Seq.{drop-cons}
use borrow.Author.Tests.{leb-true}
use Rattle.numbers.specs.Numbers.{is_digit, digits_after, decimal_of, positive, negative, number_read}
use Rattle.numbers.specs.Numbers as N
use Rattle.numbers.specs.CappedNumbers.{leading_zero, held, digits_held, number_held}
use Rattle.words.proofs.Truth.{on}

-- two values that are held alike go on alike
held_after : (v w : ℕ) (bs : List ℕ) → held v ≡ held w → digits_held (digits_after v bs) ≡ digits_held (digits_after w bs)
unfolding digits_after
held_after v w [] e = ap Some e
held_after v w (b ∷ bs) e =
    on (is_digit b)
    (λ t. rw t (held_after (v * 10 + (b - 48)) (w * 10 + (b - 48)) bs (omega arith)))
    (λ t. rw t)

module _ (word : List ℕ) (v i : ℕ) (h : i < length word) where
  pub no_digit : is_digit (get_or word i 0) ≡ false → digits_held (digits_after v (drop i word)) ≡ None
  unfolding digits_after
  no_digit e = rw (drop-cons word i 0 h, e)

  pub one-digit : is_digit (get_or word i 0) ≡ true
      → digits_held (digits_after v (drop i word)) ≡ digits_held (digits_after (held (v * 10 + (get_or word i 0 - 48))) (drop (i + 1) word))
  unfolding digits_after
  one-digit e = rw (drop-cons word i 0 h, e, add-one) (held_after _ _ (drop (suc i) word) (omega arith))

-- a byte that is a digit is at least 48, the byte of 0
pub digit_low : (b : ℕ) → is_digit b ≡ true → 48 ≤ b
digit_low b e = leb-true 48 b (on (leb 48 b) (λ t. t) (λ t. absurd (true≢false (sym e ∙ rw t))))

pub no_more : (word : List ℕ) (v i : ℕ) → v ≤ 1000 → length word ≤ i → digits_held (digits_after v (drop i word)) ≡ Some v
unfolding digits_after
no_more word v i l h = rw (drop_of_length-le word h) (ap Some (omega arith))

pub empty : (word : List ℕ) → length word ≡ 0 → decimal_of word ≡ None
unfolding decimal_of
empty [] e = refl
empty (b ∷ bs) e = absurd (omega arith)

pub leading : (word : List ℕ) → leading_zero word ≡ true → decimal_of word ≡ None
unfolding decimal_of leading_zero
leading [] e = refl
leading (b ∷ []) e = absurd (true≢false (sym e))
leading (b ∷ (d ∷ ds)) e = rw e

pub plain : (word : List ℕ) → (length word ≡ 0 → ⊥) → leading_zero word ≡ false → decimal_of word ≡ digits_after 0 word
unfolding decimal_of leading_zero
plain [] h e = absurd (h refl)
plain (b ∷ []) h e = refl
plain (b ∷ (d ∷ ds)) h e = rw e

pub zero-short : (word : List ℕ) → length word < 2 → leading_zero word ≡ false
unfolding leading_zero
zero-short [] h = refl
zero-short (b ∷ []) h = refl
zero-short (b ∷ (d ∷ ds)) h = absurd (omega arith)

pub zero_long : (word : List ℕ) → 2 ≤ length word → leading_zero word ≡ eqb (get_or word 0 0) 48
unfolding leading_zero
zero_long [] h = absurd (omega arith)
zero_long (b ∷ []) h = absurd (omega arith)
zero_long (b ∷ (d ∷ ds)) h = refl

-- ---- signs

-- what the test for a minus says
pub has_minus : (word : List ℕ) → pointwise nat_eq (take 1 word) (45 ∷ []) ≡ eqb (get_or word 0 0) 45
has_minus [] = refl
has_minus (b ∷ bs) = and-true (eqb b 45)

module _ (word : List ℕ) where
  module _ (h : eqb (get_or word 0 0) 45 ≡ false) where
    plain-number : number_read word ≡ positive (decimal_of word)
    unfolding number_read decimal_of
    plain-number = go word h
      where
        go : (word : List ℕ) → eqb (get_or word 0 0) 45 ≡ false → number_read word ≡ positive (decimal_of word)
        go [] e = refl
        go (b ∷ bs) e = rw e

    pub plain_value : (v : ℕ) → digits_held (decimal_of word) ≡ Some v → number_held (number_read word) ≡ Some (false, v)
    plain_value v e = ap number_held plain-number ∙ go (decimal_of word) e
      where
        go : (d : Option ℕ) → digits_held d ≡ Some v → number_held (positive d) ≡ Some (false, v)
        go (Some x) e = (let f : ℕ → Option (Bool × ℕ) = λ b. Some (false, b) in ap f (let i : held x ≡ v = cc in i))
        go None e = absurd (let z : ◌≡◌ {A = ℕ} 0 1 = cc in omega arith)

    pub plain-none : digits_held (decimal_of word) ≡ None → number_held (number_read word) ≡ None
    plain-none e = ap number_held plain-number ∙ go (decimal_of word) e
      where
        go : (d : Option ℕ) → digits_held d ≡ None → number_held (positive d) ≡ None
        go (Some x) e = absurd (let z : ◌≡◌ {A = ℕ} 0 1 = cc in omega arith)
        go None e = refl

  module _ (h : eqb (get_or word 0 0) 45 ≡ true) where
    abbrev rest : List ℕ
    rest = drop 1 word

    minus_number : number_read word ≡ negative (decimal_of rest)
    unfolding number_read
    minus_number = go word h
      where
        go : (word : List ℕ) → eqb (get_or word 0 0) 45 ≡ true → number_read word ≡ negative (decimal_of (drop 1 word))
        go [] e = absurd (true≢false (sym e))
        go (b ∷ bs) e = rw e

    pub minus-none : digits_held (decimal_of rest) ≡ None → number_held (number_read word) ≡ None
    minus-none e = ap number_held minus_number ∙ go (decimal_of rest) e
      where
        go : (d : Option ℕ) → digits_held d ≡ None → number_held (negative d) ≡ None
        go (Some x) e = absurd (let z : ◌≡◌ {A = ℕ} 0 1 = cc in omega arith)
        go None e = refl

    module _ (v : ℕ) (e : digits_held (decimal_of rest) ≡ Some v) where
      pub minus-zero : v ≡ 0 → number_held (number_read word) ≡ None
      minus-zero z = ap number_held minus_number ∙ go (decimal_of rest) e
        where
          go : (d : Option ℕ) → digits_held d ≡ Some v → number_held (negative d) ≡ None
          go (Some zero) e = refl
          go (Some (suc x)) e = absurd (let i : held (suc x) ≡ v = cc in omega arith)
          go None e = refl

      pub minus-value : (v ≡ 0 → ⊥) → number_held (number_read word) ≡ Some (true, v)
      minus-value z = ap number_held minus_number ∙ go (decimal_of rest) e
        where
          go : (d : Option ℕ) → digits_held d ≡ Some v → number_held (negative d) ≡ Some (true, v)
          go (Some zero) e = absurd (let i : held zero ≡ v = cc in z (sym i))
          go (Some (suc x)) e = (let f : ℕ → Option (Bool × ℕ) = λ b. Some (true, b) in ap f (let i : held (suc x) ≡ v = cc in i))
          go None e = absurd (let q : ◌≡◌ {A = ℕ} 0 1 = cc in omega arith)

-- ---- what a held number means

-- a number held with a sign and a value is well-formed: it has that sign, and its own value, held up to 1000, is that value
pub held-value : (x : N.Number) (s : Bool) (v : ℕ) → number_held x ≡ Some (s, v) → (w : ℕ) × (x ≡ N.number s w) × (held w ≡ v)
held-value (N.number t w) s v e =
    let both : (t, held w) ≡ (s, v) = cc in
    (w, ap (λ (b : Bool). N.number b w) (ap (λ (p : Bool × ℕ). p.0) both), ap (λ (p : Bool × ℕ). p.1) both)
held-value N.malformed s v e = absurd (let z : ◌≡◌ {A = ℕ} 0 1 = cc in omega arith)

-- only a malformed number is held as malformed
pub held_none : (x : N.Number) → number_held x ≡ None → x ≡ N.malformed
held_none (N.number t w) e = absurd (let z : ◌≡◌ {A = ℕ} 0 1 = cc in omega arith)
held_none N.malformed e = refl
