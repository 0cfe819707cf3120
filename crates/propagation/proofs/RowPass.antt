-- A row in a pass: what its judging says of where the pass comes. By cases on the row, satisfied, in conflict, with one free literal or with more.
use mathlib.Core.Path.{◌≡◌, refl, sym, ap, ◌∙◌}
use mathlib.Core.Bool.{Bool, true, false, cond}
use Prim.Native.Nat.{ℕ, ◌<◌}
use native.Mathlib.Omega.{arith}
use lib.Dec.{eqb, ltb}
use lib.Pow.{pow_pos}
use borrow.Author.Tests.{eq-eqb, eqb-true, ne_eqb, lt-ltb}
use Rattle.words.specs.declared.Row.{Row}
use Rattle.words.specs.Sets.{bit, put, count, lowest, word_of}
use Rattle.words.proofs.Ones.{count-zero}
use Rattle.words.proofs.Upto.{count_none, count-some, count_cong, lowest_hit, lowest_cong}
use Rattle.words.proofs.Bits.{bit-zero}
use Rattle.words.proofs.WordOf.{bit_word_of, word_of_lt}
use Rattle.words.proofs.Operations.{bit_ext}
use Rattle.tables.specs.declared.Judged.{Judged}
use Rattle.tables.specs.Rows.{satisfied, free_in, judged}
use Rattle.tables.proofs.Rows.{unsatisfied-literals}
use Rattle.scan.specs.Rules.{unsatisfied_with}
use Rattle.propagation.specs.declared.Propagated.{Propagated}
use Rattle.propagation.specs.Propagation.{true_with, false_with}
use Rattle.propagation.specs.Passes.{after_row}

-- T and F, and no conflict
abbrev pub at : ℕ → ℕ → Propagated
at t f = record { conflict = false; t = t; f = f }

module _ (r : Row) (t f : ℕ) (j : Judged) (e : j ≡ judged 32 r t f) where
  pub row-satisfied : j.satisfied ≡ true → at t f ≡ after_row r t f
  unfolding unsatisfied_with
  row-satisfied h = let q : satisfied 32 r t f ≡ true = sym (ap (λ (x : Judged). x.satisfied) e) ∙ h in rw q

  module _ (h : j.satisfied ≡ false) where
    -- the word of the free variables
    abbrev w : ℕ
    w = j.variables

    open_row : satisfied 32 r t f ≡ false
    open_row = sym (ap (λ (x : Judged). x.satisfied) e) ∙ h

    word-is : w ≡ word_of (λ i. free_in r t f i) 32
    word-is = ap (λ (x : Judged). x.variables) e

    is_in_word : (i : ℕ) → i < 32 → bit w i ≡ free_in r t f i
    is_in_word i b = rw word-is (bit_word_of (λ i. free_in r t f i) 32 i b)

    by_word : (k : ℕ) → unsatisfied_with k 32 t f r ≡ eqb (count (bit w) 32) k
    unfolding unsatisfied_with
    by_word k = rw open_row (rw (count_cong (bit w) (λ i. free_in r t f i) 32 is_in_word) (rw (unsatisfied-literals 32 r t f open_row) refl))

    pub row_conflict : w ≡ 0 → record { conflict = true; t = t; f = f } ≡ after_row r t f
    row_conflict z =
        let c : unsatisfied_with 0 32 t f r ≡ true = by_word 0 ∙ ap (λ (x : ℕ). eqb (count (bit x) 32) 0) z ∙ eq-eqb _ 0 (count-zero 32) in
        rw c

    module _ (z : w ≡ 0 → ⊥) where
      no_conflict : unsatisfied_with 0 32 t f r ≡ false
      no_conflict = by_word 0 ∙ ne_eqb _ 0 (λ k. z (bit_ext 32 w 0 (rw word-is (word_of_lt (λ i. free_in r t f i) 32)) (pow_pos 32)
          (λ i b. count_none (bit w) 32 k i b ∙ sym (bit-zero i))))

      pub row_open : (x : Bool) → x ≡ eqb (count (bit w) 32) 1 → x ≡ false → at t f ≡ after_row r t f
      row_open x s q = let u : unsatisfied_with 1 32 t f r ≡ false = by_word 1 ∙ sym s ∙ q in rw (no_conflict, u)

      module _ (x : Bool) (s : x ≡ eqb (count (bit w) 32) 1) (q : x ≡ true) (v : ℕ) (l : v ≡ lowest (bit w) 32) where
        one : unsatisfied_with 1 32 t f r ≡ true
        one = by_word 1 ∙ sym s ∙ q

        lowest-is : v ≡ lowest (λ i. free_in r t f i) 32
        lowest-is = l ∙ lowest_cong (bit w) (λ i. free_in r t f i) 32 is_in_word

        low : v < 32
        low =
            let i = count-some (bit w) 32 (omega (arith, eqb-true (count (bit w) 32) 1 (sym s ∙ q))) in
            rw l (lowest_hit (bit w) 32 i.0 i.1 i.2).0

        forced-is : (b : Bool) → bit r.positive v ≡ b → at (true_with v b t) (false_with v b f) ≡ after_row r t f
        forced-is b p =
            ap (λ (b : Bool). at (true_with v b t) (false_with v b f)) (sym p)
            ∙ ap (λ (v : ℕ). let b = bit r.positive v in at (true_with v b t) (false_with v b f)) lowest-is
            ∙ rw (no_conflict, one) refl

        pub row-true : (p : ℕ) (b : Bool) → b ≡ bit r.positive v → b ≡ true → p ≡ cond (ltb v 32) (put t v) t → at p f ≡ after_row r t f
        row-true p b o y k = ap (λ (x : ℕ). at x f) (k ∙ rw (lt-ltb v 32 low) refl) ∙ forced-is true (sym o ∙ y)

        pub row-false : (p : ℕ) (b : Bool) → b ≡ bit r.positive v → b ≡ false → p ≡ cond (ltb v 32) (put f v) f → at t p ≡ after_row r t f
        row-false p b o y k = ap (λ (x : ℕ). at t x) (k ∙ rw (lt-ltb v 32 low) refl) ∙ forced-is false (sym o ∙ y)
