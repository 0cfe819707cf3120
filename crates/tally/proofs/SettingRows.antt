-- A free variable is set: which rows are then unsatisfied, without a free literal or forcing one, from those before and its two literals. Row by row.
use mathlib.Core.Path.{◌≡◌, refl, sym, ap, ap₂, ◌∙◌}
use mathlib.Core.Bool.{Bool, true, false, not, ◌&&◌, ◌||◌, or-true, and-false, and-true}
use Prim.Native.Nat.{ℕ, ◌<◌}
use native.Mathlib.Omega.{arith}
use lib.Dec.{eqb}
use borrow.Author.Tests.{eq-eqb, eqb-true}
use Rattle.words.specs.declared.Row.{Row}
use Rattle.words.specs.Booleans.{digit}
use Rattle.words.specs.Sets.{bit, count}
use Rattle.words.proofs.Truth.{on, and_l, and_r, and_i, not-or, taut2, taut3, taut4, taut5, agree, agree_eq}
use Rattle.words.proofs.Upto.{count-one}
use Rattle.words.proofs.Bits.{bit-put}
use Rattle.tables.specs.Rows.{satisfied, free, holds, free_in, free_literals}
use Rattle.tables.proofs.Rows.{unsatisfied-literals}
use Rattle.scan.specs.Rules.{unsatisfied_with}
use Rattle.occurrences.specs.Index.{holds_literal}
use Rattle.tally.specs.Tallies.{set_t, set_f, unmet, forcing}
use Rattle.tally.proofs.LiteralLaws.{set-satisfied, set-literals}

-- the row has exactly k free variables
abbrev pub free_are : ℕ → ℕ → ℕ → ℕ → Row → Bool
free_are k n t f r = eqb (count (λ i. free_in r t f i) n) k

-- it has exactly one, v, which it holds with this sign
abbrev pub only_free : Bool → ℕ → ℕ → ℕ → ℕ → Row → Bool
only_free sign n t f v r = free_are 1 n t f r && (holds_literal sign v r && free_in r t f v)

-- of an unsatisfied row its free variables are its free literals
pub with_variables : (n k t f : ℕ) (r : Row) → unsatisfied_with k n t f r ≡ unmet n t f r && free_are k n t f r
unfolding unsatisfied_with
with_variables n k t f r = on (satisfied n r t f) (λ e. rw e) (λ e. rw e (ap (λ (x : ℕ). eqb x k) (unsatisfied-literals n r t f e)))

-- the variables free then
pub free-after : (t f v : ℕ) (sign : Bool) (u : ℕ) → free (set_t sign t v) (set_f sign f v) u ≡ free t f u && not (eqb u v)
free-after t f v true u = rw bit-put (agree_eq (taut3 (λ t f x. agree (not (t || x) && not f) ((not t && not f) && not x)) refl (bit t u) (bit f u) (eqb u v)))
free-after t f v false u = rw bit-put (agree_eq (taut3 (λ t f x. agree (not t && not (f || x)) ((not t && not f) && not x)) refl (bit t u) (bit f u) (eqb u v)))

module _ (n t f v : ℕ) (b : v < n) (was_free : free t f v ≡ true) (sign : Bool) (r : Row) where
  abbrev t' : ℕ
  t' = set_t sign t v

  abbrev f' : ℕ
  f' = set_f sign f v

  abbrev own : Bool
  own = holds_literal sign v r

  abbrev other : Bool
  other = holds_literal (not sign) v r

  -- the row holds the variable if it holds one of its literals
  holds-one : holds r v ≡ own || other
  holds-one = go sign
    where
      go : (s : Bool) → holds r v ≡ holds_literal s v r || holds_literal (not s) v r
      go true = refl
      go false = agree_eq (taut2 (λ x y. agree (x || y) (y || x)) refl (bit r.positive v) (bit r.negative v))

  -- the rows unsatisfied then are those that were, without the literal's own
  pub row-unmet : unmet n t f r && not own ≡ unmet n t' f' r
  row-unmet = sym (ap not (set-satisfied n r t f v b sign) ∙ not-or (satisfied n r t f) own)

  -- a row that does not hold the other literal has as many free literals as before, if it is unsatisfied then
  row_same : (k : ℕ) → other ≡ false → unsatisfied_with k n t' f' r ≡ unsatisfied_with k n t f r && not own
  unfolding unsatisfied_with
  row_same k off =
      on own
      (λ h. rw (set-satisfied n r t f v b sign, h, or-true (satisfied n r t f)) (sym (and-false (unsatisfied_with k n t f r))))
      (λ h. on (satisfied n r t f)
      (λ e. rw (set-satisfied n r t f v b sign, e))
      (λ e.
      let e' : satisfied n r t' f' ≡ false = set-satisfied n r t f v b sign ∙ rw (e, h) in
      let c : holds r v ≡ false = holds-one ∙ rw (h, off) in
      let l : free_literals n r t' f' ≡ free_literals n r t f = omega (arith, set-literals n r t f v b sign was_free e e', ap digit c) in
      rw (e, e', h, l) (sym (and-true (eqb (free_literals n r t f) k)))))

  -- the rows without a free literal then all hold the other literal, where no row was without one
  pub row-none : unsatisfied_with 0 n t f r ≡ false → (unmet n t' f' r && other) && free_are 0 n t' f' r ≡ unsatisfied_with 0 n t' f' r
  row-none calm =
      on other
      (λ h. rw h (ap (λ (x : Bool). x && free_are 0 n t' f' r) (and-true (unmet n t' f' r))) ∙ sym (with_variables n 0 t' f' r))
      (λ h. rw h (ap (λ (x : Bool). x && free_are 0 n t' f' r) (and-false (unmet n t' f' r))) ∙ sym (row_same 0 h ∙ ap (λ (x : Bool). x && not own) calm))

  module _ (u : ℕ) (c : u < n) where
    -- a row that holds the variable forces no other one
    held-alone : holds r v ≡ true → (unsatisfied_with 1 n t f r && free_in r t f u) && free t' f' u ≡ false
    held-alone h =
        on (unsatisfied_with 1 n t f r && free_in r t f u)
        (λ e.
        let k = and_r (unmet n t f r) _ (sym (with_variables n 1 t f r) ∙ and_l (unsatisfied_with 1 n t f r) _ e) in
        let q : u ≡ v = count-one (λ i. free_in r t f i) n (eqb-true _ 1 k) u v c b (and_r (unsatisfied_with 1 n t f r) _ e) (and_i was_free h) in
        rw e (free-after t f v sign u ∙ ap (λ (x : Bool). free t f u && not x) (eq-eqb u v q) ∙ and-false (free t f u)))
        (λ e. rw e)

    -- forced then: what was forced and is still free, and what the rows that hold the other literal force
    pub row-forced : (s : Bool) → (forcing s n t f u r && free t' f' u) || ((unmet n t' f' r && other) && only_free s n t' f' u r)
        ≡ forcing s n t' f' u r
    row-forced s =
        let one = unsatisfied_with 1 n t f r in
        let m = unmet n t' f' r in
        let k = free_are 1 n t' f' r in
        let l = holds_literal s u r in
        let d = free_in r t' f' u in
        on other
        (λ h. ap₂ (λ (x y : Bool). x || ((m && y) && (k && (l && d)))) (gone (holds-one ∙ rw h (or-true own))) h
        ∙ agree_eq (taut4 (λ m k l d. agree ((m && true) && (k && (l && d))) (((m && k) && d) && l)) refl m k l d)
        ∙ ap (λ (x : Bool). (x && d) && l) (sym (with_variables n 1 t' f' r)))
        (λ h. on own
        (λ o. ap₂ (λ (x y : Bool). x || ((m && y) && (k && (l && d)))) (gone (holds-one ∙ rw o)) h ∙ ap (λ (x : Bool). x && (k && (l && d))) (and-false m)
        ∙ sym (ap (λ (x : Bool). (x && d) && l) (row_same 1 h ∙ ap (λ (x : Bool). one && not x) o ∙ and-false one)))
        (λ o. ap₂ (λ (g y : Bool). (forcing s n t f u r && g) || ((m && y) && (k && (l && d)))) (free-after t f v sign u) h
        ∙ ap (λ (x : Bool). (forcing s n t f u r && (free t f u && not (eqb u v))) || (x && (k && (l && d)))) (and-false m)
        ∙ agree_eq (taut5 (λ c a x q l. agree ((((c && (a && q)) && l) && (a && x)) || false) ((c && ((a && x) && q)) && l)) refl
        one (free t f u) (not (eqb u v)) (holds r u) l)
        ∙ ap₂ (λ (c g : Bool). (c && (g && holds r u)) && l)
        (sym (row_same 1 h ∙ ap (λ (x : Bool). one && not x) o ∙ and-true one)) (sym (free-after t f v sign u))))
      where
        gone : holds r v ≡ true → forcing s n t f u r && free t' f' u ≡ false
        gone h = without_sign (unsatisfied_with 1 n t f r && free_in r t f u) (holds_literal s u r) (free t' f' u) (held-alone h)
          where
            without_sign : (x l g : Bool) → x && g ≡ false → (x && l) && g ≡ false
            without_sign true l g e = rw e (and-false l)
            without_sign false l g e = refl
