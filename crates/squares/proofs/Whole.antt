-- Five steps exchange all five digits: one test over the 1,024 places.
use mathlib.Core.Path.{◌≡◌, refl, sym, ap, ap₂, ◌∙◌}
use mathlib.Core.Bool.{Bool, true, false, ◌&&◌, cond}
use mathlib.Core.List.{List}
use Prim.Native.Nat.{ℕ, ◌+◌, ◌-◌, ◌/◌, ◌%◌, ◌^◌, ◌<◌}
use native.Mathlib.Nat.{zero-add}
use lib.Dec.{eqb, ltb}
use lib.ListN.{get_or}
use borrow.Author.Tests.{eqb-true, ltb-true}
use Rattle.words.specs.Sets.{bit, all}
use Rattle.words.proofs.Truth.{and_l, and_r, on}
use Rattle.words.proofs.Upto.{all_e}
use Rattle.words.proofs.Operations.{bit_ext}
use Rattle.words.proofs.WordOf.{bit_word_of, word_of_lt}
use Rattle.squares.specs.Squares.{column, transposed}
use Rattle.squares.proofs.Tabulating.{at-tabulate, tabulate_cong}
use Rattle.squares.specs.Steps.{odd, low_word, high_word, mixed_word, staged}

-- where bit c of word k is before a step: in which word, and at which place
abbrev from_word : ℕ → ℕ → ℕ → ℕ
from_word d k c = cond (odd d c) (k / 2 + 16) (k / 2)

abbrev from_place : ℕ → ℕ → ℕ → ℕ
from_place d k c = cond (eqb (k % 2) 1) (cond (odd d c) c (c + d)) (cond (odd d c) (c - d) c)

-- a word after one step
word_stage : (words : List ℕ) (d k : ℕ) → k < 32 → get_or (staged words d) k 0 ≡ mixed_word words d k
word_stage words d k hk = at-tabulate (mixed_word words d) 0 32 k hk ∙ ap (mixed_word words d) (zero-add k)

mixed-lt : (words : List ℕ) (d k : ℕ) → mixed_word words d k < 2 ^ 32
unfolding mixed_word low_word high_word
mixed-lt words d k = on (eqb (k % 2) 1) (λ e. rw e (word_of_lt _ 32)) (λ e. rw e (word_of_lt _ 32))

-- a bit after one step
at_stage : (words : List ℕ) (d k c : ℕ) → k < 32 → c < 32
    → bit (get_or (staged words d) k 0) c ≡ bit (get_or words (from_word d k c) 0) (from_place d k c)
unfolding mixed_word low_word high_word
at_stage words d k c hk hc =
    ap (λ (x : ℕ). bit x c) (word_stage words d k hk)
    ∙ on (eqb (k % 2) 1)
    (λ e. rw e (bit_word_of (λ c. cond (odd d c) (bit b c) (bit a (c + d))) 32 c hc ∙ high-place (odd d c)))
    (λ e. rw e (bit_word_of (λ c. cond (odd d c) (bit b (c - d)) (bit a c)) 32 c hc ∙ low-place (odd d c)))
  where
    a : ℕ
    a = get_or words (k / 2) 0

    b : ℕ
    b = get_or words (k / 2 + 16) 0

    high-place : (o : Bool) → cond o (bit b c) (bit a (c + d)) ≡ bit (get_or words (cond o (k / 2 + 16) (k / 2)) 0) (cond o c (c + d))
    high-place true = refl
    high-place false = refl

    low-place : (o : Bool) → cond o (bit b (c - d)) (bit a c) ≡ bit (get_or words (cond o (k / 2 + 16) (k / 2)) 0) (cond o (c - d) c)
    low-place true = refl
    low-place false = refl

-- both numbers are below 32
abbrev within : ℕ → ℕ → Bool
within k c = ltb k 32 && ltb c 32

module _ (k c : ℕ) where
  abbrev k₁ : ℕ
  k₁ = from_word 1 k c

  abbrev c₁ : ℕ
  c₁ = from_place 1 k c

  abbrev k₂ : ℕ
  k₂ = from_word 2 k₁ c₁

  abbrev c₂ : ℕ
  c₂ = from_place 2 k₁ c₁

  abbrev k₃ : ℕ
  k₃ = from_word 4 k₂ c₂

  abbrev c₃ : ℕ
  c₃ = from_place 4 k₂ c₂

  abbrev k₄ : ℕ
  k₄ = from_word 8 k₃ c₃

  abbrev c₄ : ℕ
  c₄ = from_place 8 k₃ c₃

  abbrev k₅ : ℕ
  k₅ = from_word 16 k₄ c₄

  abbrev c₅ : ℕ
  c₅ = from_place 16 k₄ c₄

  -- the places stay below 32, and in the end rows and columns are exchanged
  abbrev exchanged : Bool
  exchanged = within k₁ c₁ && within k₂ c₂ && within k₃ c₃ && within k₄ c₄ && (eqb k₅ c && eqb c₅ k)

all-exchanged : all (λ k. all (λ c. exchanged k c) 32) 32 ≡ true
unfolding all odd
all-exchanged = refl

module _ (words : List ℕ) (k c : ℕ) (hk : k < 32) (hc : c < 32) where
  e₀ : exchanged k c ≡ true
  e₀ = all_e (λ c. exchanged k c) 32 (all_e (λ k. all (λ c. exchanged k c) 32) 32 all-exchanged k hk) c hc

  last : eqb (k₅ k c) c && eqb (c₅ k c) k ≡ true
  last = and_r (within (k₁ k c) (c₁ k c) && within (k₂ k c) (c₂ k c) && within (k₃ k c) (c₃ k c) && within (k₄ k c) (c₄ k c)) _ e₀

  four : within (k₁ k c) (c₁ k c) && within (k₂ k c) (c₂ k c) && within (k₃ k c) (c₃ k c) && within (k₄ k c) (c₄ k c) ≡ true
  four = and_l _ (eqb (k₅ k c) c && eqb (c₅ k c) k) e₀

  three : within (k₁ k c) (c₁ k c) && within (k₂ k c) (c₂ k c) && within (k₃ k c) (c₃ k c) ≡ true
  three = and_l _ (within (k₄ k c) (c₄ k c)) four

  two : within (k₁ k c) (c₁ k c) && within (k₂ k c) (c₂ k c) ≡ true
  two = and_l _ (within (k₃ k c) (c₃ k c)) three

  left : (a b : ℕ) → within a b ≡ true → a < 32
  left a b e = ltb-true a 32 (and_l (ltb a 32) (ltb b 32) e)

  right : (a b : ℕ) → within a b ≡ true → b < 32
  right a b e = ltb-true b 32 (and_r (ltb a 32) (ltb b 32) e)

  w₁ : within (k₁ k c) (c₁ k c) ≡ true
  w₁ = and_l _ (within (k₂ k c) (c₂ k c)) two

  w₂ : within (k₂ k c) (c₂ k c) ≡ true
  w₂ = and_r (within (k₁ k c) (c₁ k c)) _ two

  w₃ : within (k₃ k c) (c₃ k c) ≡ true
  w₃ = and_r (within (k₁ k c) (c₁ k c) && within (k₂ k c) (c₂ k c)) _ three

  w₄ : within (k₄ k c) (c₄ k c) ≡ true
  w₄ = and_r (within (k₁ k c) (c₁ k c) && within (k₂ k c) (c₂ k c) && within (k₃ k c) (c₃ k c)) _ four

  at_end_lem : bit (get_or (staged (staged (staged (staged (staged words 16) 8) 4) 2) 1) k 0) c ≡ bit (get_or words c 0) k
  at_end_lem =
      at_stage (staged (staged (staged (staged words 16) 8) 4) 2) 1 k c hk hc
      ∙ at_stage (staged (staged (staged words 16) 8) 4) 2 (k₁ k c) (c₁ k c) (left (k₁ k c) (c₁ k c) w₁) (right (k₁ k c) (c₁ k c) w₁)
      ∙ at_stage (staged (staged words 16) 8) 4 (k₂ k c) (c₂ k c) (left (k₂ k c) (c₂ k c) w₂) (right (k₂ k c) (c₂ k c) w₂)
      ∙ at_stage (staged words 16) 8 (k₃ k c) (c₃ k c) (left (k₃ k c) (c₃ k c) w₃) (right (k₃ k c) (c₃ k c) w₃)
      ∙ at_stage words 16 (k₄ k c) (c₄ k c) (left (k₄ k c) (c₄ k c) w₄) (right (k₄ k c) (c₄ k c) w₄)
      ∙ ap₂ (λ (x y : ℕ). bit (get_or words x 0) y) (eqb-true (k₅ k c) c (and_l (eqb (k₅ k c) c) _ last))
      (eqb-true (c₅ k c) k (and_r (eqb (k₅ k c) c) _ last))

pub whole : (words : List ℕ) → staged (staged (staged (staged (staged words 16) 8) 4) 2) 1 ≡ transposed words
unfolding column
whole words =
    let prior = staged (staged (staged (staged words 16) 8) 4) 2 in
    tabulate_cong (mixed_word prior 1) (column words) 0 0 32
    (λ k hk.
    ap (mixed_word prior 1) (zero-add k)
    ∙ bit_ext 32 (mixed_word prior 1 k) (column words k) (mixed-lt prior 1 k) (word_of_lt _ 32)
    (λ c hc. sym (ap (λ (x : ℕ). bit x c) (word_stage prior 1 k hk)) ∙ at_end_lem words k c hk hc ∙ sym (bit_word_of (λ j. bit (get_or words j 0) k) 32 c hc))
    ∙ ap (column words) (sym (zero-add k)))
