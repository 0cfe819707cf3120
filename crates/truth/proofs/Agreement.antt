-- An assignment that agrees with T and F, and what the rules of the giant step say of one that makes rows true: no row is in conflict, and a forced literal is
-- true. Each variable by variable.
use mathlib.Core.Path.{◌≡◌, refl, sym, ap, ◌∙◌}
use mathlib.Core.Bool.{Bool, true, false, not, ◌&&◌, ◌||◌, true≢false}
use mathlib.Core.List.{List}
use Prim.Native.Nat.{ℕ, ◌<◌}
use lib.Dec.{eqb}
use borrow.Author.Tests.{eqb-true}
use Rattle.words.specs.declared.Row.{Row}
use Rattle.words.specs.Booleans.{imp}
use Rattle.words.specs.Sets.{bit, put, any}
use Rattle.words.proofs.Truth.{mp, and_i, on, taut2, taut3, taut5, agree, agree_eq}
use Rattle.words.proofs.Upto.{any_e, count_none, count-one}
use Rattle.words.proofs.Bits.{bit-put}
use Rattle.tables.specs.Rows.{satisfied, free_in}
use Rattle.tables.proofs.Rows.{unsatisfied-none}
use Rattle.scan.specs.Rules.{unsatisfied_with}
use Rattle.truth.proofs.TruthLaws.{literal}
use Rattle.truth.proofs.RuleLaws.{Forces, with-unsatisfied, with-count}

-- ---- one variable: p, q say whether it occurs positive, negative; t, f whether it is in T, in F; a is its value

-- the value is as T and F have it
abbrev pub agreed : Bool → Bool → Bool → Bool
agreed t f a = imp t a && imp f (not a)

-- T, F or padding satisfies the row by it
abbrev pub satisfying : Bool → Bool → Bool → Bool → Bool
satisfying p q t f = p && q || p && t || q && f

-- the value makes a literal of it true
abbrev pub literals : Bool → Bool → Bool → Bool
literals p q a = p && a || q && not a

-- the assignment has T's variables true and F's false
abbrev pub Agrees : ℕ → (ℕ → Bool) → ℕ → ℕ → Type 0
Agrees n a t f = (i : ℕ) → i < n → agreed (bit t i) (bit f i) (a i) ≡ true

module _ (n : ℕ) (a : ℕ → Bool) (t f : ℕ) (g : Agrees n a t f) where
  -- a row that is not satisfied is true only by a free literal
  by-free : (r : Row) (i : ℕ) → i < n → satisfied n r t f ≡ false → literal a r i ≡ true → free_in r t f i ≡ true
  by-free r i b e h =
      mp _ _
      (taut5 (λ p q t f a. imp (literals p q a && not (satisfying p q t f) && agreed t f a) (not t && not f && (p || q))) refl
      (bit r.positive i) (bit r.negative i) (bit t i) (bit f i) (a i))
      (and_i (and_i h (ap not (unsatisfied-none n r t f e i b))) (g i b))

  -- rule 2: a row in conflict is not true
  pub conflict_false : (r : Row) → unsatisfied_with 0 n t f r ≡ true → any (λ i. literal a r i) n ≡ true → ⊥
  conflict_false r e h =
      let x = any_e (λ i. literal a r i) n h in
      true≢false
      (sym (by-free r x.0 x.1 (with-unsatisfied 0 n t f r e) x.2)
      ∙ count_none (λ i. free_in r t f i) n (with-count 0 n t f r e) x.0 x.1)

  -- rule 3: the one free literal is true
  pub forced : (rows : List Row) (v : ℕ) (positive : Bool) (w : Forces n rows t f v positive) → any (λ i. literal a w.row i) n ≡ true → a v ≡ positive
  forced rows v positive w h =
      let r = w.row in
      let x = any_e (λ i. literal a r i) n h in
      let o = with-unsatisfied 1 n t f r w.one-literal in
      let one : x.0 ≡ v =
      count-one (λ i. free_in r t f i) n (with-count 1 n t f r w.one-literal) x.0 v x.1 w.low (by-free r x.0 x.1 o x.2) w.free_there in
      let l : literal a r v ≡ true = rw one at x.2 in
      agree_eq (mp _ _
      (taut5 (λ p q t f a. imp (literals p q a && not (satisfying p q t f)) (agree a p)) refl (bit r.positive v)
      (bit r.negative v) (bit t v) (bit f v) (a v))
      (and_i l (ap not (unsatisfied-none n r t f o v w.low))))
      ∙ sym w.sign

  -- an assignment with the variable true agrees with T that has it too
  pub agrees_t : (v : ℕ) → a v ≡ true → Agrees n a (put t v) f
  agrees_t v h i b =
      rw bit-put (on (eqb i v)
      (λ q. let h' : a i ≡ true = rw (eqb-true i v q) h in
      rw (q, h') (mp _ _ (taut2 (λ t f. imp (agreed t f true) (agreed (t || true) f true)) refl (bit t i) (bit f i)) (rw h' at (g i b))))
      (λ q. rw q (mp _ _ (taut3 (λ t f a. imp (agreed t f a) (agreed (t || false) f a)) refl (bit t i) (bit f i) (a i)) (g i b))))

  -- an assignment with the variable false agrees with F that has it too
  pub agrees_f : (v : ℕ) → a v ≡ false → Agrees n a t (put f v)
  agrees_f v h i b =
      rw bit-put (on (eqb i v)
      (λ q. let h' : a i ≡ false = rw (eqb-true i v q) h in
      rw (q, h') (mp _ _ (taut2 (λ t f. imp (agreed t f false) (agreed t (f || true) false)) refl (bit t i) (bit f i)) (rw h' at (g i b))))
      (λ q. rw q (mp _ _ (taut3 (λ t f a. imp (agreed t f a) (agreed t (f || false) a)) refl (bit t i) (bit f i) (a i)) (g i b))))
