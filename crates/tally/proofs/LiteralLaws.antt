-- A free variable is set: what that makes of a row. It is satisfied if it holds the literal; it has one free literal fewer if it holds the other; else nothing
-- changes.
use mathlib.Core.Path.{◌≡◌, refl, sym, ap, ap₂, ◌∙◌}
use mathlib.Core.Bool.{Bool, true, false, not, ◌&&◌, ◌||◌, and-false}
use Prim.Native.Nat.{ℕ, zero, suc, ◌+◌, ◌<◌}
use native.Mathlib.Nat.{not-suc-le-zero}
use native.Mathlib.Omega.{arith}
use lib.Dec.{eqb}
use borrow.Author.Tests.{ne_eqb, eqb-true, eqb-false}
use Rattle.words.specs.declared.Row.{Row}
use Rattle.words.specs.Booleans.{digit}
use Rattle.words.specs.Sets.{bit, put, count}
use Rattle.words.proofs.Truth.{taut4, taut5, agree, agree_eq, on}
use Rattle.words.proofs.Upto.{any-or, count_cong}
use Rattle.words.proofs.Last.{any_cong, any_at, count-last}
use Rattle.words.proofs.Bits.{bit-put}
use Rattle.tables.specs.Rows.{satisfied, satisfies, free, holds, free_in, free_literals}
use Rattle.tables.proofs.Rows.{satisfied-any, unsatisfied-literals}
use Rattle.occurrences.specs.Index.{holds_literal}
use Rattle.tally.specs.Tallies.{set_t, set_f}

-- one number less
count-without : (p : ℕ → Bool) (n v : ℕ) → v < n → count (λ i. p i && not (eqb i v)) n + digit (p v) ≡ count p n
count-without p zero v b = absurd (not-suc-le-zero b)
count-without p (suc n) v b =
    let l = count-last (λ i. p i && not (eqb i v)) n in
    let r = count-last p n in
    on (eqb n v)
    (λ e.
    let q : n ≡ v = eqb-true n v e in
    let z : digit (p n && not (eqb n v)) ≡ 0 = ap (λ (x : Bool). digit (p n && not x)) e ∙ ap digit (and-false (p n)) in
    let s : count (λ i. p i && not (eqb i v)) n ≡ count p n =
    count_cong _ _ n (λ i c. ap (λ (x : Bool). p i && not x) (ne_eqb i v (λ k. omega arith)) ∙ and-true (p i)) in
    let d : digit (p n) ≡ digit (p v) = ap (λ (k : ℕ). digit (p k)) q in
    omega arith)
    (λ e.
    let d : digit (p n && not (eqb n v)) ≡ digit (p n) = ap (λ (x : Bool). digit (p n && not x)) e ∙ ap digit (and-true (p n)) in
    let h = count-without p n v (omega (arith, eqb-false n v e)) in
    omega arith)
  where
    and-true : (x : Bool) → x && true ≡ x
    and-true true = refl
    and-true false = refl

module _ (n : ℕ) (r : Row) (t f v : ℕ) (b : v < n) where
  -- the row is satisfied if it was, or if it holds the literal
  pub set-satisfied : (sign : Bool) → satisfied n r (set_t sign t v) (set_f sign f v) ≡ satisfied n r t f || holds_literal sign v r
  set-satisfied true =
      satisfied-any n r (put t v) f
      ∙ any_cong (λ i. satisfies r (put t v) f i) (λ i. satisfies r t f i || (eqb i v && bit r.positive i)) n
      (λ i c. rw bit-put (agree_eq (taut5 (λ p q t f x. agree (p && q || p && (t || x) || q && f) ((p && q || p && t || q && f) || (x && p))) refl
      (bit r.positive i) (bit r.negative i) (bit t i) (bit f i) (eqb i v))))
      ∙ any-or (λ i. satisfies r t f i) (λ i. eqb i v && bit r.positive i) n
      ∙ ap₂ (λ (x y : Bool). x || y) (sym (satisfied-any n r t f)) (any_at (bit r.positive) n v b)
  set-satisfied false =
      satisfied-any n r t (put f v)
      ∙ any_cong (λ i. satisfies r t (put f v) i) (λ i. satisfies r t f i || (eqb i v && bit r.negative i)) n
      (λ i c. rw bit-put (agree_eq (taut5 (λ p q t f x. agree (p && q || p && t || q && (f || x)) ((p && q || p && t || q && f) || (x && q))) refl
      (bit r.positive i) (bit r.negative i) (bit t i) (bit f i) (eqb i v))))
      ∙ any-or (λ i. satisfies r t f i) (λ i. eqb i v && bit r.negative i) n
      ∙ ap₂ (λ (x y : Bool). x || y) (sym (satisfied-any n r t f)) (any_at (bit r.negative) n v b)

  -- one free variable fewer, if the row holds it and it was free
  set_free : (sign : Bool) → count (λ i. free_in r (set_t sign t v) (set_f sign f v) i) n + digit (free_in r t f v) ≡ count (λ i. free_in r t f i) n
  set_free true =
      ap (λ (k : ℕ). k + digit (free_in r t f v))
      (count_cong (λ i. free_in r (put t v) f i) (λ i. free_in r t f i && not (eqb i v)) n
      (λ i c. rw bit-put (agree_eq (taut4 (λ t f x h. agree (not (t || x) && not f && h) ((not t && not f && h) && not x)) refl (bit t i)
      (bit f i) (eqb i v) (holds r i)))))
      ∙ count-without (λ i. free_in r t f i) n v b
  set_free false =
      ap (λ (k : ℕ). k + digit (free_in r t f v))
      (count_cong (λ i. free_in r t (put f v) i) (λ i. free_in r t f i && not (eqb i v)) n
      (λ i c. rw bit-put (agree_eq (taut4 (λ t f x h. agree (not t && not (f || x) && h) ((not t && not f && h) && not x)) refl (bit t i)
      (bit f i) (eqb i v) (holds r i)))))
      ∙ count-without (λ i. free_in r t f i) n v b

  -- of a row that stays unsatisfied
  pub set-literals : (sign : Bool) → free t f v ≡ true → satisfied n r t f ≡ false → satisfied n r (set_t sign t v) (set_f sign f v) ≡ false
      → free_literals n r (set_t sign t v) (set_f sign f v) + digit (holds r v) ≡ free_literals n r t f
  set-literals sign h e e' =
      let a = unsatisfied-literals n r (set_t sign t v) (set_f sign f v) e' in
      let c = unsatisfied-literals n r t f e in
      let x : digit (free_in r t f v) ≡ digit (holds r v) = ap (λ (y : Bool). digit (y && holds r v)) h in
      omega (arith, set_free sign)
