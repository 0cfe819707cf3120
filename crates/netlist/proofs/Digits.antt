-- Numbers by their digits, the lowest first: a chain of one AND gate a digit compares two numbers. By induction on the digits, the highest apart.
use mathlib.Core.Path.{◌≡◌, refl, sym, ap, ap₂, ◌∙◌}
use mathlib.Core.Bool.{Bool, true, false, not, ◌&&◌}
use Prim.Native.Nat.{ℕ, zero, suc, ◌+◌, ◌^◌, ◌≤◌, ◌<◌}
use native.Mathlib.Nat.{pow-suc}
use native.Mathlib.Omega.{arith}
use lib.Dec.{eqb, ltb}
use borrow.Author.Tests.{ltb-true, ltb-false, lt-ltb, le-ltb, eqb-true, eqb-false, eq-eqb, ne_eqb}
use Rattle.words.specs.Booleans.{◌⊕◌}
use Rattle.words.specs.Sets.{word_of}
use Rattle.words.proofs.Truth.{on, taut1, agree, agree_eq}
use Rattle.words.proofs.WordOf.{word_of_lt}
use Rattle.netlist.proofs.Chains.{xor_false}

pub same-ltb : (a b c d : ℕ) → (a < b → c < d) → (b ≤ a → d ≤ c) → ltb a b ≡ ltb c d
same-ltb a b c d h k = on (ltb a b) (λ e. rw e (sym (lt-ltb c d (h (ltb-true a b e))))) (λ e. rw e (sym (le-ltb c d (k (ltb-false a b e)))))

pub same-eqb : (a b c d : ℕ) → (a ≡ b → c ≡ d) → (c ≡ d → a ≡ b) → eqb a b ≡ eqb c d
same-eqb a b c d h k = on (eqb a b) (λ e. rw e (sym (eq-eqb c d (h (eqb-true a b e))))) (λ e. rw e (sym (ne_eqb c d (λ q. eqb-false a b e (k q)))))

-- what a digit of this weight adds
abbrev pub raised : Bool → ℕ → ℕ
raised true w = w
raised false w = 0

pub word_of_last : (p : ℕ → Bool) (n : ℕ) → word_of p (suc n) ≡ word_of p n + raised (p n) (2 ^ n)
unfolding word_of
word_of_last p zero = on (p zero) (λ e. rw e) (λ e. rw e)
word_of_last p (suc n) =
    on (p (suc n))
    (λ e. let h : word_of (λ i. p (suc i)) (suc n) ≡ word_of (λ i. p (suc i)) n + 2 ^ n = rw e at (word_of_last (λ i. p (suc i)) n) in
    rw e (omega (arith, h, pow-suc 2 n)))
    (λ e. let h : word_of (λ i. p (suc i)) (suc n) ≡ word_of (λ i. p (suc i)) n + 0 = rw e at (word_of_last (λ i. p (suc i)) n) in
    rw e (omega (arith, h)))

-- ---- comparing

-- c is greater than a, from a digit of each and from whether it is greater below that digit
abbrev pub greater_of : Bool → Bool → Bool → Bool
greater_of a c g = g ⊕ ((a ⊕ c) && (c ⊕ g))

greater_step : (a c : Bool) (x y w : ℕ) → x < w → y < w → greater_of a c (ltb x y) ≡ ltb (x + raised a w) (y + raised c w)
greater_step true true x y w h k = xor_false (ltb x y) ∙ same-ltb x y (x + w) (y + w) (λ l. omega arith) (λ l. omega arith)
greater_step true false x y w h k =
    agree_eq (taut1 (λ g. agree (g ⊕ g) false) refl (ltb x y)) ∙ sym (le-ltb (x + w) (y + 0) (omega arith))
greater_step false true x y w h k =
    agree_eq (taut1 (λ g. agree (g ⊕ not g) true) refl (ltb x y)) ∙ sym (lt-ltb (x + 0) (y + w) (omega arith))
greater_step false false x y w h k = xor_false (ltb x y) ∙ same-ltb x y (x + 0) (y + 0) (λ l. omega arith) (λ l. omega arith)

module _ (a c g : ℕ → Bool) (n : ℕ) (start : g 0 ≡ false) (next : (i : ℕ) → i < n → g (suc i) ≡ greater_of (a i) (c i) (g i)) where
  pub compared : (i : ℕ) → i ≤ n → g i ≡ ltb (word_of a i) (word_of c i)
  unfolding word_of
  compared zero h = start
  compared (suc i) h =
      next i h ∙ ap (λ (x : Bool). greater_of (a i) (c i) x) (compared i (omega arith))
      ∙ greater_step (a i) (c i) (word_of a i) (word_of c i) (2 ^ i) (word_of_lt a i) (word_of_lt c i)
      ∙ sym (ap₂ ltb (word_of_last a i) (word_of_last c i))

-- ---- choosing

-- c where it is kept, else a
abbrev pub kept_of : Bool → Bool → Bool → Bool
kept_of keep a c = a ⊕ (keep && (a ⊕ c))

pub kept-true : (a c : Bool) → kept_of true a c ≡ c
kept-true true true = refl
kept-true true false = refl
kept-true false c = refl

pub kept-false : (a c : Bool) → kept_of false a c ≡ a
kept-false a c = xor_false a
