-- What is seen of 64 rows, as code has it: operations on words, bit by bit; one more variable; what all variables show and which rows are left.
use mathlib.Core.Path.{◌≡◌, refl, sym, ap, ap₂, ◌∙◌}
use mathlib.Core.Bool.{Bool, true, false, not, ◌&&◌, ◌||◌, cond}
use mathlib.Core.List.{List, [], ◌∷◌}
use Prim.Native.Nat.{ℕ, suc, ◌+◌, ◌-◌, ◌*◌, ◌%◌, ◌^◌, ◌≤◌, ◌<◌}
use native.Mathlib.Nat.{one-mul}
use native.Mathlib.Numerals.{add-one}
use native.Mathlib.Omega.{arith}
use lib.Dec.{leb, ltb, lit<}
use lib.Bits.{bit_and, bit_or, or_lt}
use lib.ListN.{get_or}
use lib.Pow.{pow_pos, pow-lt, shl_exact}
use borrow.Author.Tests.{lt-ltb, le-ltb, ltb-true, ltb-false}
use Rattle.words.specs.Sets.{bit, any, count, word_of}
use Rattle.words.proofs.Truth.{on, not-or, taut5, agree, agree_eq}
use Rattle.words.proofs.Last.{any_last}
use Rattle.words.proofs.Bits.{bit-or, bit-zero}
use Rattle.words.proofs.Operations.{bit-and, bit_not, bit_high, and-lt-left}
use Rattle.words.proofs.WordOf.{bit_word_of, word_of_cong, word_of_lt}
use Rattle.tally.specs.declared.Tally.{Tally}
use Rattle.tally.specs.declared.surveying.RowsSeen.{RowsSeen}
use Rattle.tally.specs.declared.surveying.RowsLeft.{RowsLeft}
use Rattle.tally.specs.RowsSeen.{with_variable, met_by, free_by, seen_in, unmet_by, few_by, left_in, surveyed}
use Rattle.tally.specs.Words.{gathered}
use Rattle.tally.proofs.WordLaws.{word-is, bit-without}
use Rattle.tally.proofs.Counting.{two-more}

ones_bit : (k j : ℕ) → j < k → bit (2 ^ k - 1) j ≡ true
ones_bit k j h = let e : 2 ^ k - 1 ≡ (2 ^ k - 1) - 0 = omega arith in ap (λ (x : ℕ). bit x j) e ∙ bit_not k 0 j (pow_pos k) h ∙ ap not (bit-zero j)

-- a word without bits
none-word : (p : ℕ → Bool) → ((j : ℕ) → j < 64 → p j ≡ false) → 0 ≡ word_of p 64
none-word p e = word-is 0 p (pow_pos 64) (λ j c. bit-zero j ∙ sym (e j c))

-- ---- one more variable, in words

only-bit : (b : Bool) (x j : ℕ) → bit (cond b x 0) j ≡ b && bit x j
only-bit true x j = refl
only-bit false x j = bit-zero j

only-low : (b : Bool) (x : ℕ) → x < 2 ^ 64 → cond b x 0 < 2 ^ 64
only-low true x h = h
only-low false x h = pow_pos 64

module _ (s : RowsSeen) (t f : Bool) (p q : ℕ) (hm : s.met < 2 ^ 64) (ho : s.one < 2 ^ 64) (ht : s.two < 2 ^ 64) (hp : p < 2 ^ 64) (hq : q < 2 ^ 64)
    {free a b : ℕ} (e : free ≡ cond (not (t || f)) (bit_or p q) 0) (x : a ≡ cond t p 0) (y : b ≡ cond f q 0) where
  free-bit : (j : ℕ) → bit free j ≡ (not t && not f) && (bit p j || bit q j)
  free-bit j = ap (λ (z : ℕ). bit z j) e ∙ only-bit (not (t || f)) (bit_or p q) j ∙ ap₂ (λ (u v : Bool). u && v) (not-or t f) (bit-or p q j)

  pub with-is : ◌≡◌ {A = RowsSeen} (record {
    met = bit_or (bit_or (bit_or s.met (bit_and p q)) a) b;
    one = bit_or s.one free;
    two = bit_or s.two (bit_and s.one free);
  }) (with_variable s t f p q)
  with-is = λ i. record {
    met = word-is _ _ (or_lt 64 _ b (or_lt 64 _ a (or_lt 64 s.met _ hm (and-lt-left 64 p q hp)) (rw x (only-low t p hp))) (rw y (only-low f q hq)))
        (λ j c. bit-or _ b j
        ∙ ap₂ (λ (u v : Bool). u || v) (bit-or _ a j
        ∙ ap₂ (λ (u v : Bool). u || v) (bit-or s.met _ j ∙ ap (λ (u : Bool). bit s.met j || u) (bit-and p q j))
        (ap (λ (z : ℕ). bit z j) x ∙ only-bit t p j)) (ap (λ (z : ℕ). bit z j) y ∙ only-bit f q j)
        ∙ agree_eq (taut5 (λ m p q t f. agree (((m || (p && q)) || (t && p)) || (f && q)) (m || (((p && q) || (p && t)) || (q && f)))) refl
        (bit s.met j) (bit p j) (bit q j) t f)) i;
    one = word-is _ _ (or_lt 64 s.one free ho (rw e (only-low (not (t || f)) (bit_or p q) (or_lt 64 p q hp hq))))
        (λ j c. bit-or s.one free j ∙ ap (λ (u : Bool). bit s.one j || u) (free-bit j)) i;
    two = word-is _ _ (or_lt 64 s.two _ ht (and-lt-left 64 s.one free ho))
        (λ j c. bit-or s.two _ j
        ∙ ap (λ (u : Bool). bit s.two j || u) (bit-and s.one free j ∙ ap (λ (u : Bool). bit s.one j && u) (free-bit j))) i;
  }

-- ---- what the variables below some number show

module _ (index : List ℕ) (t f w : ℕ) where
  -- none looked at
  pub seen_none : ◌≡◌ {A = RowsSeen} (record { met = 0; one = 0; two = 0 }) (seen_in index t f 0 w)
  unfolding any count
  seen_none = λ i. record {
    met = none-word (λ j. any (met_by index t f w j) 0) (λ j c. refl) i;
    one = none-word (λ j. any (free_by index t f w j) 0) (λ j c. refl) i;
    two = none-word (λ j. leb 2 (count (free_by index t f w j) 0)) (λ j c. refl) i;
  }

  module _ (v : ℕ) where
    abbrev positive : ℕ
    positive = get_or index (6 * v + w) 0

    abbrev negative : ℕ
    negative = get_or index (6 * (32 + v) + w) 0

    one_more : with_variable (seen_in index t f v w) (bit t v) (bit f v) positive negative ≡ seen_in index t f (suc v) w
    one_more = λ i. record {
      met = word_of_cong _ _ 64 (λ j c. ap (λ (b : Bool). b || met_by index t f w j v) (bit_word_of (λ j. any (met_by index t f w j) v) 64 j c)
          ∙ sym (any_last (met_by index t f w j) v)) i;
      one = word_of_cong _ _ 64 (λ j c. ap (λ (b : Bool). b || free_by index t f w j v) (bit_word_of (λ j. any (free_by index t f w j) v) 64 j c)
          ∙ sym (any_last (free_by index t f w j) v)) i;
      two = word_of_cong _ _ 64 (λ j c. ap₂ (λ (a b : Bool). a || (b && free_by index t f w j v))
          (bit_word_of (λ j. leb 2 (count (free_by index t f w j) v)) 64 j c) (bit_word_of (λ j. any (free_by index t f w j) v) 64 j c)
          ∙ sym (two-more (free_by index t f w j) v)) i;
    }

    -- one more looked at
    pub seen_next : (s r : RowsSeen) (x y : Bool) → s ≡ seen_in index t f v w → x ≡ bit t v → y ≡ bit f v → r ≡ with_variable s x y positive negative
        → r ≡ seen_in index t f (v + 1) w
    seen_next s r x y e p q h =
        h ∙ ap (λ (z : RowsSeen). with_variable z x y positive negative) e
        ∙ ap₂ (λ (a b : Bool). with_variable (seen_in index t f v w) a b positive negative) p q ∙ one_more
        ∙ ap (λ (k : ℕ). seen_in index t f k w) (sym (add-one v))

    -- all looked at
    pub seen_all : (s : RowsSeen) → v ≤ 32 → 32 ≤ v → s ≡ seen_in index t f v w → s ≡ seen_in index t f 32 w
    seen_all s g h e = let q : v ≡ 32 = omega arith in e ∙ ap (λ (k : ℕ). seen_in index t f k w) q

-- ---- rows below the count

module _ (count w : ℕ) where
  abbrev low : ℕ → Bool
  low j = ltb (64 * w + j) count

  pub below_none : count ≤ 64 * w → 0 ≡ word_of low 64
  below_none h = word-is 0 low (pow_pos 64) (λ j c. bit-zero j ∙ sym (le-ltb (64 * w + j) count (omega arith)))

  pub below_all : 64 ≤ count - 64 * w → 18446744073709551615 ≡ word_of low 64
  below_all h = word-is 18446744073709551615 low (lit< tt) (λ j c. ones_bit 64 j c ∙ sym (lt-ltb (64 * w + j) count (omega arith)))

  shifted : count - 64 * w < 64 → (1 * 2 ^ (count - 64 * w)) % 18446744073709551616 ≡ 2 ^ (count - 64 * w)
  shifted h = shl_exact 1 (count - 64 * w) 64 (lit< tt) (omega arith) ∙ one-mul (2 ^ (count - 64 * w))

  pub shifted_pos : count - 64 * w < 64 → 1 ≤ (1 * 2 ^ (count - 64 * w)) % 18446744073709551616
  shifted_pos h = omega (arith, shifted h, pow_pos (count - 64 * w))

  pub below-some : 64 * w < count → count - 64 * w < 64 → (1 * 2 ^ (count - 64 * w)) % 18446744073709551616 - 1 ≡ word_of low 64
  below-some g h =
      let k = count - 64 * w in
      let l : 2 ^ k < 2 ^ 64 = pow-lt h in
      ap (λ (x : ℕ). x - 1) (shifted h)
      ∙ word-is (2 ^ k - 1) low (omega (arith, l))
      (λ j c. on (low j)
      (λ q. ones_bit k j (omega (arith, ltb-true (64 * w + j) count q)) ∙ sym q)
      (λ q. bit_high k (2 ^ k - 1) j (omega (arith, pow_pos k)) (omega (arith, ltb-false (64 * w + j) count q)) ∙ sym q))

-- ---- the rows left

module _ (index : List ℕ) (rows t f w : ℕ) where
  -- no row of the 64 is below the count
  pub left-none : (x : ℕ) → x ≡ word_of (low rows w) 64 → x ≡ 0 → ◌≡◌ {A = RowsLeft} (record { unsatisfied = 0; few = 0 }) (left_in index rows t f w)
  left-none x e z = λ i. record {
    unsatisfied = none-word (unmet_by index rows t f w) (λ j c. rw (past j c)) i;
    few = none-word (few_by index rows t f w) (λ j c. rw (past j c)) i;
  }
    where
      past : (j : ℕ) → j < 64 → low rows w j ≡ false
      past j c = sym (bit_word_of (low rows w) 64 j c) ∙ ap (λ (y : ℕ). bit y j) (sym e ∙ z) ∙ bit-zero j

  abbrev seen : RowsSeen
  seen = seen_in index t f 32 w

  abbrev unmet : ℕ
  unmet = bit_and (word_of (low rows w) 64) (18446744073709551615 - seen.met)

  unmet-low : unmet < 2 ^ 64
  unmet-low = and-lt-left 64 _ _ (word_of_lt (low rows w) 64)

  unmet-bit : (j : ℕ) → j < 64 → bit unmet j ≡ unmet_by index rows t f w j
  unmet-bit j c =
      bit-without _ _ j (word_of_lt (λ j. any (met_by index t f w j) 32) 64) c
      ∙ ap₂ (λ (x y : Bool). x && not y) (bit_word_of (low rows w) 64 j c) (bit_word_of (λ j. any (met_by index t f w j) 32) 64 j c)

  few-bit : (j : ℕ) → j < 64 → bit (bit_and unmet (18446744073709551615 - seen.two)) j ≡ few_by index rows t f w j
  few-bit j c =
      bit-without _ _ j (word_of_lt (λ j. leb 2 (count (free_by index t f w j) 32)) 64) c
      ∙ ap₂ (λ (x y : Bool). x && not y) (unmet-bit j c) (bit_word_of (λ j. leb 2 (count (free_by index t f w j) 32)) 64 j c)

  pub left_is : (x : ℕ) (s : RowsSeen) → x ≡ word_of (low rows w) 64 → s ≡ seen
      → ◌≡◌ {A = RowsLeft} (record {
        unsatisfied = bit_and x (18446744073709551615 - s.met);
        few = bit_and (bit_and x (18446744073709551615 - s.met)) (18446744073709551615 - s.two);
      }) (left_in index rows t f w)
  left_is x s e q =
      (λ i. record {
        unsatisfied = bit_and (e i) (18446744073709551615 - (q i).met);
        few = bit_and (bit_and (e i) (18446744073709551615 - (q i).met)) (18446744073709551615 - (q i).two);
      })
      ∙ (λ i. record { unsatisfied = word-is _ _ unmet-low unmet-bit i; few = word-is _ _ (and-lt-left 64 _ _ unmet-low) few-bit i })

-- six words of 64 rows
pub survey_is : (words index : List ℕ) (n t f : ℕ) {a b c d e g : RowsLeft} {r : Tally}
    → a ≡ left_in index n t f 0 → b ≡ left_in index n t f 1 → c ≡ left_in index n t f 2
    → d ≡ left_in index n t f 3 → e ≡ left_in index n t f 4 → g ≡ left_in index n t f 5
    → r ≡ gathered words (4294967295 - bit_or t f) 0 0
    (a.unsatisfied ∷ (b.unsatisfied ∷ (c.unsatisfied ∷ (d.unsatisfied ∷ (e.unsatisfied ∷ (g.unsatisfied ∷ []))))))
    (a.few ∷ (b.few ∷ (c.few ∷ (d.few ∷ (e.few ∷ (g.few ∷ []))))))
    → r ≡ surveyed words index n t f
unfolding surveyed
survey_is words index n t f p0 p1 p2 p3 p4 p5 h =
    h ∙ (λ i. gathered words (4294967295 - bit_or t f) 0 0
    ((p0 i).unsatisfied ∷ ((p1 i).unsatisfied ∷ ((p2 i).unsatisfied ∷ ((p3 i).unsatisfied ∷ ((p4 i).unsatisfied ∷ ((p5 i).unsatisfied ∷ []))))))
    ((p0 i).few ∷ ((p1 i).few ∷ ((p2 i).few ∷ ((p3 i).few ∷ ((p4 i).few ∷ ((p5 i).few ∷ [])))))))
