-- A clause's row is the set of its literals: repeated ones count once, their order does not matter, and a variable with both signs makes padding. By the bits
-- of the two words, a literal at a time.
use mathlib.Core.Path.{◌≡◌, refl, sym, ap, ap₂, ◌∙◌}
use mathlib.Core.Bool.{Bool, true, false, ◌&&◌, ◌||◌, or-false, or_assoc, or_comm}
use mathlib.Core.List.{List, [], ◌∷◌}
use Prim.Native.Nat.{ℕ, suc, ◌+◌, ◌^◌, ◌≤◌, ◌<◌}
use native.Mathlib.Omega.{arith}
use lib.Dec.{eqb, ltb}
use lib.Pow.{pow_pos}
use borrow.Author.Tests.{lt-ltb, ltb-true, eqb-true}
use Rattle.words.specs.declared.Row.{Row}
use Rattle.words.specs.Sets.{bit}
use Rattle.words.proofs.Truth.{on, and_l, and_r, and_i, agree, agree_eq}
use Rattle.words.proofs.Bits.{bit-zero, bit-put, put-lt}
use Rattle.words.proofs.Operations.{bit_ext}
use Rattle.clauses.specs.Rows.{Literal, with_literal, row_of}
use Rattle.clauses.specs.First.{empty_row, with_literals}

-- the word of a sign
abbrev pub word_for : Bool → Row → ℕ
word_for false r = r.positive
word_for true r = r.negative

-- whether a clause holds variable i + 1 in a sign
abbrev pub holds : Bool → ℕ → List Literal → Bool
holds s i [] = false
holds s i (l ∷ ls) = agree s l.minus && eqb i l.bit || holds s i ls

bit-with : (s m : Bool) (v i : ℕ) (r : Row) → bit (word_for s (with_literal m v r)) i ≡ bit (word_for s r) i || (agree s m && eqb i v)
bit-with false false v i r = bit-put r.positive v i
bit-with false true v i r = sym (or-false (bit r.positive i))
bit-with true false v i r = sym (or-false (bit r.negative i))
bit-with true true v i r = bit-put r.negative v i

empty_holds : (s : Bool) (i : ℕ) → bit (word_for s empty_row) i ≡ false
empty_holds true i = bit-zero i
empty_holds false i = bit-zero i

-- the row has exactly the clause's literals
pub row-holds : (s : Bool) (i : ℕ) (ls : List Literal) → bit (word_for s (row_of ls)) i ≡ holds s i ls
row-holds s i [] = empty_holds s i
row-holds s i (l ∷ ls) =
    bit-with s l.minus l.bit i (row_of ls)
    ∙ ap (λ (x : Bool). x || agree s l.minus && eqb i l.bit) (row-holds s i ls)
    ∙ or_comm (holds s i ls) (agree s l.minus && eqb i l.bit)

-- ---- clauses whose variables are below n

-- every literal of a clause has its bit below n
abbrev pub below : ℕ → List Literal → Bool
below n [] = true
below n (l ∷ ls) = ltb l.bit n && below n ls

with-lt : (n : ℕ) (s m : Bool) (v : ℕ) (r : Row) → v < n → word_for s r < 2 ^ n → word_for s (with_literal m v r) < 2 ^ n
with-lt n false false v r h k = put-lt n r.positive v k h
with-lt n false true v r h k = k
with-lt n true false v r h k = k
with-lt n true true v r h k = put-lt n r.negative v k h

empty-lt : (n : ℕ) (s : Bool) → word_for s empty_row < 2 ^ n
empty-lt n true = pow_pos n
empty-lt n false = pow_pos n

-- their row has no bit at or above n
pub row_lt : (n : ℕ) (s : Bool) (ls : List Literal) → below n ls ≡ true → word_for s (row_of ls) < 2 ^ n
row_lt n s [] h = empty-lt n s
row_lt n s (l ∷ ls) h =
    with-lt n s l.minus l.bit (row_of ls) (ltb-true l.bit n (and_l (ltb l.bit n) (below n ls) h))
    (row_lt n s ls (and_r (ltb l.bit n) (below n ls) h))

-- ---- the same literals, the same row

width : List Literal → ℕ
width [] = 0
width (l ∷ ls) = suc l.bit + width ls

-- literals whose bits are below a have them below every b from a on
pub below_more : (a b : ℕ) (ls : List Literal) → a ≤ b → below a ls ≡ true → below b ls ≡ true
below_more a b [] h e = refl
below_more a b (l ∷ ls) h e =
    and_i (lt-ltb l.bit b (omega (arith, ltb-true l.bit a (and_l (ltb l.bit a) (below a ls) e))))
    (below_more a b ls h (and_r (ltb l.bit a) (below a ls) e))

below_width : (ls : List Literal) → below (width ls) ls ≡ true
unfolding width
below_width [] = refl
below_width (l ∷ ls) = and_i (lt-ltb l.bit (suc l.bit + width ls) (omega arith))
    (below_more (width ls) (suc l.bit + width ls) ls (omega arith) (below_width ls))

pub same_row : (ls ks : List Literal) → ((s : Bool) (i : ℕ) → holds s i ls ≡ holds s i ks) → row_of ls ≡ row_of ks
same_row ls ks h = ap₂ (λ (p q : ℕ). record { positive = p; negative = q }) (words false) (words true)
  where
    words : (s : Bool) → word_for s (row_of ls) ≡ word_for s (row_of ks)
    words s =
        bit_ext (width ls + width ks) (word_for s (row_of ls)) (word_for s (row_of ks))
        (row_lt (width ls + width ks) s ls (below_more (width ls) (width ls + width ks) ls (omega arith) (below_width ls)))
        (row_lt (width ls + width ks) s ks (below_more (width ks) (width ls + width ks) ks (omega arith) (below_width ks)))
        (λ i k. row-holds s i ls ∙ h s i ∙ sym (row-holds s i ks))

-- ---- literals added from the first on

-- of literals that the words have bits for, all are added
bits-with : (s : Bool) (i : ℕ) (r : Row) (ls : List Literal) → below 32 ls ≡ true
    → bit (word_for s (with_literals r ls)) i ≡ bit (word_for s r) i || holds s i ls
bits-with s i r [] h = sym (or-false (bit (word_for s r) i))
bits-with s i r (l ∷ ls) h =
    rw (and_l (ltb l.bit 32) (below 32 ls) h)
    (bits-with s i (with_literal l.minus l.bit r) ls (and_r (ltb l.bit 32) (below 32 ls) h)
    ∙ ap (λ (x : Bool). x || holds s i ls) (bit-with s l.minus l.bit i r)
    ∙ or_assoc (bit (word_for s r) i) (agree s l.minus && eqb i l.bit) (holds s i ls))

withs_lt : (s : Bool) (ls : List Literal) (r : Row) → word_for s r < 2 ^ 32 → word_for s (with_literals r ls) < 2 ^ 32
withs_lt s [] r k = k
withs_lt s (l ∷ ls) r k =
    on (ltb l.bit 32)
    (λ e. rw e (withs_lt s ls (with_literal l.minus l.bit r) (with-lt 32 s l.minus l.bit r (ltb-true l.bit 32 e) k)))
    (λ e. rw e (withs_lt s ls r k))

-- they give the row too
pub row-filled : (ls : List Literal) → below 32 ls ≡ true → with_literals empty_row ls ≡ row_of ls
row-filled ls h = ap₂ (λ (p q : ℕ). record { positive = p; negative = q }) (words false) (words true)
  where
    words : (s : Bool) → word_for s (with_literals empty_row ls) ≡ word_for s (row_of ls)
    words s =
        bit_ext 32 (word_for s (with_literals empty_row ls)) (word_for s (row_of ls)) (withs_lt s ls empty_row (empty-lt 32 s)) (row_lt 32 s ls h)
        (λ i k. bits-with s i empty_row ls h ∙ ap (λ (x : Bool). x || holds s i ls) (empty_holds s i) ∙ sym (row-holds s i ls))

-- a repeated literal counts once
pub repeated : (l : Literal) (ls : List Literal) → holds l.minus l.bit ls ≡ true → row_of (l ∷ ls) ≡ row_of ls
repeated l ls e = same_row (l ∷ ls) ls (λ s i. go s i)
  where
    go : (s : Bool) (i : ℕ) → holds s i (l ∷ ls) ≡ holds s i ls
    go s i =
        on (agree s l.minus && eqb i l.bit)
        (λ q. let a : l.minus ≡ s = sym (agree_eq (and_l (agree s l.minus) (eqb i l.bit) q)) in
        let b : i ≡ l.bit = eqb-true i l.bit (and_r (agree s l.minus) (eqb i l.bit) q) in
        rw q (sym (ap₂ (λ (t : Bool) (j : ℕ). holds t j ls) (sym a) b ∙ e)))
        (λ q. rw q)

-- a variable with both signs makes padding: its bit is in both words
pub padding : (i : ℕ) (ls : List Literal) → holds false i ls ≡ true → holds true i ls ≡ true
    → bit (row_of ls).positive i && bit (row_of ls).negative i ≡ true
padding i ls p q = and_i (row-holds false i ls ∙ p) (row-holds true i ls ∙ q)
