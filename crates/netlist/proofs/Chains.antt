-- Chains: a wire that is computed from the wire of the cell before, against `any`, the parity and the count of the numbers before it. One induction for each
-- kind of chain.
use mathlib.Core.Path.{◌≡◌, refl, sym, ap, ap₂, ◌∙◌}
use mathlib.Core.Bool.{Bool, true, false, ◌&&◌, ◌||◌}
use Prim.Native.Nat.{ℕ, zero, suc, ◌+◌, ◌≤◌, ◌<◌, suc-le-suc}
use native.Mathlib.Nat.{le_of_suc-le-suc, not-suc-le-zero, zero-lt-suc, le_refl}
use native.Mathlib.Omega.{arith}
use lib.Dec.{eqb, eqb-zero-suc, eqb-suc-zero, eqb-suc-suc}
use borrow.Author.Tests.{eqb-true, eqb-false}
use Rattle.words.specs.Booleans.{◌⊕◌, digit}
use Rattle.words.specs.Sets.{any, count}
use Rattle.words.proofs.Truth.{on, taut1, taut2, taut3, taut4, taut5, agree, agree_eq}
use Rattle.words.proofs.Last.{any_last, count-last}

-- ---- OR

-- a or b, with one AND gate
abbrev pub or : Bool → Bool → Bool
or a b = (a ⊕ b) ⊕ (a && b)

pub or_is : (a b : Bool) → or a b ≡ a || b
or_is a b = agree_eq (taut2 (λ a b. agree (or a b) (a || b)) refl a b)

module _ (s p : ℕ → Bool) (n : ℕ) (start : s 0 ≡ false) (next : (i : ℕ) → i < n → s (suc i) ≡ s i || p i) where
  pub any-chain : (i : ℕ) → i ≤ n → s i ≡ any p i
  unfolding any
  any-chain zero h = start
  any-chain (suc i) h = next i h ∙ ap (λ (x : Bool). x || p i) (any-chain i (omega arith)) ∙ sym (any_last p i)

-- ---- XOR

-- an odd number of the numbers below n pass
unfoldable pub parity : (ℕ → Bool) → ℕ → Bool
parity p zero = false
parity p (suc n) = p zero ⊕ parity (λ i. p (suc i)) n

pub xor_false : (a : Bool) → a ⊕ false ≡ a
xor_false a = agree_eq (taut1 (λ a. agree (a ⊕ false) a) refl a)

pub xor_self : (a : Bool) → a ⊕ a ≡ false
xor_self a = agree_eq (taut1 (λ a. agree (a ⊕ a) false) refl a)

parity-last : (p : ℕ → Bool) (n : ℕ) → parity p (suc n) ≡ parity p n ⊕ p n
unfolding parity
parity-last p zero = xor_false (p zero)
parity-last p (suc n) =
    ap (λ (x : Bool). p zero ⊕ x) (parity-last (λ i. p (suc i)) n)
    ∙ agree_eq (taut3 (λ a b c. agree (a ⊕ (b ⊕ c)) ((a ⊕ b) ⊕ c)) refl (p zero) (parity (λ i. p (suc i)) n) (p (suc n)))

module _ (s p : ℕ → Bool) (n : ℕ) (start : s 0 ≡ false) (next : (i : ℕ) → i < n → s (suc i) ≡ s i ⊕ p i) where
  pub xor_chain : (i : ℕ) → i ≤ n → s i ≡ parity p i
  unfolding parity
  xor_chain zero h = start
  xor_chain (suc i) h = next i h ∙ ap (λ (x : Bool). x ⊕ p i) (xor_chain i (omega arith)) ∙ sym (parity-last p i)

pub parity-none : (p : ℕ → Bool) (n : ℕ) → ((i : ℕ) → i < n → p i ≡ false) → parity p n ≡ false
unfolding parity
parity-none p zero h = refl
parity-none p (suc n) h = rw (h zero (zero-lt-suc n)) (parity-none (λ i. p (suc i)) n (λ i b. h (suc i) (suc-le-suc b)))

-- no number but k passes
pub parity-at : (g : ℕ → Bool) (n k : ℕ) → k < n → parity (λ i. eqb i k && g i) n ≡ g k
unfolding parity
parity-at g zero k h = absurd (not-suc-le-zero h)
parity-at g (suc n) zero h =
    rw (parity-none (λ i. eqb (suc i) zero && g (suc i)) n (λ i b. rw eqb-suc-zero)) (xor_false (g zero))
parity-at g (suc n) (suc k) h = rw eqb-zero-suc (simp eqb-suc-suc (parity-at (λ i. g (suc i)) n k (le_of_suc-le-suc h)))

-- of two wires at once
pub parity_xor : (p q : ℕ → Bool) (n : ℕ) → parity (λ i. p i ⊕ q i) n ≡ parity p n ⊕ parity q n
unfolding parity
parity_xor p q zero = refl
parity_xor p q (suc n) =
    ap (λ (x : Bool). (p zero ⊕ q zero) ⊕ x) (parity_xor (λ i. p (suc i)) (λ i. q (suc i)) n)
    ∙ agree_eq (taut4 (λ a b c d. agree ((a ⊕ b) ⊕ (c ⊕ d)) ((a ⊕ c) ⊕ (b ⊕ d))) refl (p zero) (q zero) (parity (λ i. p (suc i)) n) (parity (λ i. q (suc i)) n))

-- where both count for the same numbers
pub parity-both : (a p q : ℕ → Bool) (n : ℕ) → parity (λ i. a i && (p i ⊕ q i)) n ≡ parity (λ i. a i && p i) n ⊕ parity (λ i. a i && q i) n
unfolding parity
parity-both a p q zero = refl
parity-both a p q (suc n) =
    ap (λ (x : Bool). (a zero && (p zero ⊕ q zero)) ⊕ x) (parity-both (λ i. a (suc i)) (λ i. p (suc i)) (λ i. q (suc i)) n)
    ∙ agree_eq (taut5 (λ a b c d e. agree ((a && (b ⊕ c)) ⊕ (d ⊕ e)) (((a && b) ⊕ d) ⊕ ((a && c) ⊕ e))) refl
    (a zero) (p zero) (q zero) (parity (λ i. a (suc i) && p (suc i)) n) (parity (λ i. a (suc i) && q (suc i)) n))

-- one number alone passes x: along a chain that adds y where x passes, the end is y at that number
module _ (s x y : ℕ → Bool) (n : ℕ) (start : s 0 ≡ false) (next : (i : ℕ) → i < n → s (suc i) ≡ s i ⊕ (x i && y i)) where
  single_before : (i : ℕ) → i ≤ n → ((k : ℕ) → k < i → x k ≡ false) → s i ≡ false
  single_before zero h e = start
  single_before (suc i) h e =
      next i h ∙ ap₂ (λ (a b : Bool). a ⊕ (b && y i)) (single_before i (omega arith) (λ k l. e k (omega arith))) (e i (le_refl (suc i)))

  pub single_chain : (i v : ℕ) → i ≤ n → v < i → x v ≡ true → ((k : ℕ) → k < i → x k ≡ true → k ≡ v) → s i ≡ y v
  single_chain zero v h b e u = absurd (omega arith)
  single_chain (suc i) v h b e u =
      on (eqb v i)
      (λ q. let z : v ≡ i = eqb-true v i q in
      next i h
      ∙ ap₂ (λ (a c : Bool). a ⊕ (c && y i))
      (single_before i (omega arith) (λ k l. on (x k) (λ r. absurd (omega (arith, u k (omega arith) r))) (λ r. r))) (ap x (sym z) ∙ e)
      ∙ ap y (sym z))
      (λ q. let l : v < i = omega (arith, eqb-false v i q) in
      next i h
      ∙ ap₂ (λ (a c : Bool). a ⊕ (c && y i)) (single_chain i v (omega arith) l e (λ k m. u k (omega arith)))
      (on (x i) (λ r. absurd (omega (arith, u i (le_refl (suc i)) r))) (λ r. r))
      ∙ xor_false (y v))

-- ---- counting to two

-- at least one
abbrev pub some_of : ℕ → Bool
some_of zero = false
some_of (suc c) = true

-- more than one
abbrev pub many_of : ℕ → Bool
many_of zero = false
many_of (suc c) = some_of c

some_more : (x : Bool) (c : ℕ) → some_of c || x ≡ some_of (digit x + c)
some_more true zero = refl
some_more false zero = refl
some_more true (suc c) = let e : 1 + suc c ≡ suc (suc c) = omega arith in rw e
some_more false (suc c) = let e : 0 + suc c ≡ suc c = omega arith in rw e

many_more : (x : Bool) (c : ℕ) → many_of c || (some_of c && x) ≡ many_of (digit x + c)
many_more true zero = refl
many_more false zero = refl
many_more true (suc zero) = refl
many_more false (suc zero) = refl
many_more true (suc (suc c)) = let e : 1 + suc (suc c) ≡ suc (suc (suc c)) = omega arith in rw e
many_more false (suc (suc c)) = let e : 0 + suc (suc c) ≡ suc (suc c) = omega arith in rw e

module _ (some many x : ℕ → Bool) (n : ℕ) (some-start : some 0 ≡ false) (many-start : many 0 ≡ false)
    (some_next : (i : ℕ) → i < n → some (suc i) ≡ or (some i) (x i))
    (many-next : (i : ℕ) → i < n → many (suc i) ≡ or (many i) (some i && x i)) where
  pub count-chain : (i : ℕ) → i ≤ n → (some i ≡ some_of (count x i)) × (many i ≡ many_of (count x i))
  unfolding count
  count-chain zero h = (some-start, many-start)
  count-chain (suc i) h =
      let e = count-chain i (omega arith) in (
        some_next i h ∙ or_is (some i) (x i) ∙ ap (λ (a : Bool). a || x i) e.0 ∙ some_more (x i) (count x i) ∙ ap some_of (sym (count-last x i)),
        many-next i h ∙ or_is (many i) (some i && x i) ∙ ap₂ (λ (m a : Bool). m || (a && x i)) e.1 e.0 ∙ many_more (x i) (count x i)
            ∙ ap many_of (sym (count-last x i)),
      )
