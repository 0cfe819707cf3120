-- A conflict that can be reached still can where T and F grow and stay disjoint: a row in conflict stays in conflict, and a row that forced a literal forces it
-- still, has it made true already, or is in conflict. Row by row, and in a row variable by variable.
use mathlib.Core.Path.{◌≡◌, refl, sym, ap, ◌∙◌}
use mathlib.Core.Bool.{Bool, true, false, not, ◌&&◌, ◌||◌, true≢false}
use mathlib.Core.List.{List}
use Prim.Native.Nat.{ℕ, zero, suc, ◌<◌}
use native.Mathlib.Nat.{le_of_suc-le-suc, not-suc-le-zero, zero-lt-suc}
use native.Mathlib.Omega.{arith}
use lib.Dec.{eqb}
use borrow.Author.Tests.{eqb-true, eqb-false, eq-eqb, ne_eqb, not-true}
use Rattle.words.specs.declared.Row.{Row}
use Rattle.words.specs.Booleans.{imp}
use Rattle.words.specs.Sets.{bit, put, any, count}
use Rattle.words.proofs.Truth.{and_l, and_r, and_i, mp, imp-i, on, taut2, taut4}
use Rattle.words.proofs.Upto.{any_e, count_none, count-one}
use Rattle.words.proofs.Bits.{bit-put, put_keeps, put_has, Within}
use Rattle.tables.specs.Rows.{satisfied, satisfies, free, free_in}
use Rattle.tables.proofs.Rows.{satisfied-any, unsatisfied-none, unsatisfied-literals}
use Rattle.scan.specs.Rules.{unsatisfied_with, forces}
use Rattle.scan.proofs.RowLaws.{In}
use Rattle.truth.proofs.RuleLaws.{with-unsatisfied, with-count}
use Rattle.truth.proofs.Agreement.{satisfying}
use Rattle.propagation.specs.Propagation.{true_with, false_with}
use Rattle.propagation.specs.Orders.{Reachable, conflict, force}
use Rattle.propagation.specs.Passes.{Apart}

-- ---- counting

count-zero : (p : ℕ → Bool) (n : ℕ) → ((i : ℕ) → i < n → p i ≡ false) → count p n ≡ 0
unfolding count
count-zero p zero h = refl
count-zero p (suc n) h = rw (h 0 (zero-lt-suc n)) (omega (arith, count-zero (λ i. p (suc i)) n (λ i b. h (suc i) (omega arith))))

count_single : (p : ℕ → Bool) (n v : ℕ) → v < n → p v ≡ true → ((i : ℕ) → i < n → eqb i v ≡ false → p i ≡ false) → count p n ≡ 1
unfolding count
count_single p zero v b e h = absurd (not-suc-le-zero b)
count_single p (suc n) zero b e h =
    rw (e, count-zero (λ i. p (suc i)) n (λ i c. h (suc i) (omega arith) (ne_eqb (suc i) 0 (λ q. omega arith)))) refl
count_single p (suc n) (suc v) b e h =
    rw (h 0 (zero-lt-suc n) (ne_eqb 0 (suc v) (λ q. omega arith)))
    (omega (
      arith,
      count_single (λ i. p (suc i)) n v (le_of_suc-le-suc b) e
          (λ i c q. h (suc i) (omega arith) (ne_eqb (suc i) (suc v) (λ z. eqb-false i v q (omega arith)))),
    ))

-- ---- rows, variable by variable

-- the row's literals of the variable are false
abbrev dead : Bool → Bool → Bool → Bool → Bool
dead p q t f = imp p f && imp q t

abbrev dead_at : Row → ℕ → ℕ → ℕ → Bool
dead_at r t f i = dead (bit r.positive i) (bit r.negative i) (bit t i) (bit f i)

-- unsatisfied, and k free
unsatisfied-with : (k t f : ℕ) (r : Row) → ((i : ℕ) → i < 32 → satisfies r t f i ≡ false) → count (λ i. free_in r t f i) 32 ≡ k
    → unsatisfied_with k 32 t f r ≡ true
unfolding unsatisfied_with
unsatisfied-with k t f r h e =
    let u : satisfied 32 r t f ≡ false = satisfied-any 32 r t f
    ∙ on (any (λ i. satisfies r t f i) 32)
    (λ q. let x = any_e (λ i. satisfies r t f i) 32 q in absurd (true≢false (sym x.2 ∙ h x.0 x.1)))
    (λ q. q) in
    and_i (ap not u) (eq-eqb _ k (unsatisfied-literals 32 r t f u ∙ e))

module _ (r : Row) (t f : ℕ) where
  -- an unsatisfied row's variable that is not free
  not-free-dead : satisfied 32 r t f ≡ false → (i : ℕ) → i < 32 → free_in r t f i ≡ false → dead_at r t f i ≡ true
  not-free-dead e i b h =
      mp _ _
      (taut4 (λ p q t f. imp (not (satisfying p q t f) && not (not t && not f && (p || q))) (dead p q t f)) refl
      (bit r.positive i) (bit r.negative i) (bit t i) (bit f i))
      (and_i (ap not (unsatisfied-none 32 r t f e i b)) (ap not h))

  conflict_dead : unsatisfied_with 0 32 t f r ≡ true → (i : ℕ) → i < 32 → dead_at r t f i ≡ true
  conflict_dead e i b = not-free-dead (with-unsatisfied 0 32 t f r e) i b (count_none (λ i. free_in r t f i) 32 (with-count 0 32 t f r e) i b)

  unit-dead : unsatisfied_with 1 32 t f r ≡ true → (v : ℕ) → v < 32 → free_in r t f v ≡ true → (i : ℕ) → i < 32 → eqb i v ≡ false → dead_at r t f i ≡ true
  unit-dead e v c h i b q =
      not-free-dead (with-unsatisfied 1 32 t f r e) i b
      (on (free_in r t f i)
      (λ z. absurd (eqb-false i v q (count-one (λ i. free_in r t f i) 32 (with-count 1 32 t f r e) i v b c z h)))
      (λ z. z))

  module _ (apart : Apart t f) where
    dead-not-satisfied : (i : ℕ) → i < 32 → dead_at r t f i ≡ true → satisfies r t f i ≡ false
    dead-not-satisfied i b h =
        not-true _ (mp _ _
        (taut4 (λ p q t f. imp (dead p q t f && not (t && f)) (not (satisfying p q t f))) refl (bit r.positive i) (bit r.negative i) (bit t i) (bit f i))
        (and_i h (ap not (apart i b))))

    dead-not-free : (i : ℕ) → dead_at r t f i ≡ true → free_in r t f i ≡ false
    dead-not-free i h =
        not-true _ (mp _ _
        (taut4 (λ p q t f. imp (dead p q t f) (not (not t && not f && (p || q)))) refl (bit r.positive i) (bit r.negative i) (bit t i) (bit f i)) h)

    dead_conflict : ((i : ℕ) → i < 32 → dead_at r t f i ≡ true) → unsatisfied_with 0 32 t f r ≡ true
    dead_conflict h = unsatisfied-with 0 t f r (λ i b. dead-not-satisfied i b (h i b)) (count-zero (λ i. free_in r t f i) 32 (λ i b. dead-not-free i (h i b)))

    dead-unit : (v : ℕ) → v < 32 → free_in r t f v ≡ true → bit r.positive v && bit r.negative v ≡ false
        → ((i : ℕ) → i < 32 → eqb i v ≡ false → dead_at r t f i ≡ true) → unsatisfied_with 1 32 t f r ≡ true
    dead-unit v c h np d =
        unsatisfied-with 1 t f r
        (λ i b. on (eqb i v)
        (λ q. rw (eqb-true i v q) (not-true _ (mp _ _
        (taut4 (λ p q t f. imp ((not t && not f && (p || q)) && not (p && q)) (not (satisfying p q t f))) refl
        (bit r.positive v) (bit r.negative v) (bit t v) (bit f v))
        (and_i h (ap not np)))))
        (λ q. dead-not-satisfied i b (d i b q)))
        (count_single (λ i. free_in r t f i) 32 v c h (λ i b q. dead-not-free i (d i b q)))

dead_grows : (r : Row) (t f t' f' : ℕ) → Within 32 t t' → Within 32 f f' → (i : ℕ) → i < 32 → dead_at r t f i ≡ true → dead_at r t' f' i ≡ true
dead_grows r t f t' f' wt wf i b h =
    let p = bit r.positive i in
    let q = bit r.negative i in
    and_i
    (imp-i p (bit f' i) (λ e. wf i b (mp p (bit f i) (and_l (imp p (bit f i)) _ h) e)))
    (imp-i q (bit t' i) (λ e. wt i b (mp q (bit t i) (and_r (imp p (bit f i)) _ h) e)))

-- ---- one literal more

put-within : (w x v : ℕ) → Within 32 w x → bit x v ≡ true → Within 32 (put w v) x
put-within w x v h e i b q =
    on (eqb i v)
    (λ z. rw (eqb-true i v z) e)
    (λ z. h i b (mp _ _ (taut2 (λ a c. imp ((a || c) && not c) a) refl (bit w i) (eqb i v)) (and_i (sym (bit-put w v i) ∙ q) (ap not z))))

put_both : (w x v : ℕ) → Within 32 w x → Within 32 (put w v) (put x v)
put_both w x v h = put-within w (put x v) v (λ i b q. put_keeps x v i (h i b q)) (put_has x v)

module _ (t f v : ℕ) (apart : Apart t f) (h : free t f v ≡ true) where
  apart_t : Apart (put t v) f
  apart_t i b =
      rw bit-put (on (eqb i v)
      (λ q. let h' : free t f i ≡ true = rw (eqb-true i v q) h in
      rw q (not-true _ (mp _ _ (taut2 (λ t f. imp (not t && not f) (not ((t || true) && f))) refl (bit t i) (bit f i)) h')))
      (λ q. rw q (not-true _ (mp _ _ (taut2 (λ t f. imp (not (t && f)) (not ((t || false) && f))) refl (bit t i) (bit f i)) (ap not (apart i b))))))

  apart_f : Apart t (put f v)
  apart_f i b =
      rw bit-put (on (eqb i v)
      (λ q. let h' : free t f i ≡ true = rw (eqb-true i v q) h in
      rw q (not-true _ (mp _ _ (taut2 (λ t f. imp (not t && not f) (not (t && (f || true)))) refl (bit t i) (bit f i)) h')))
      (λ q. rw q (not-true _ (mp _ _ (taut2 (λ t f. imp (not (t && f)) (not (t && (f || false)))) refl (bit t i) (bit f i)) (ap not (apart i b))))))

  -- T and F with a literal of a free variable made true have no variable in common
  pub apart_after : (b : Bool) → Apart (true_with v b t) (false_with v b f)
  apart_after true = apart_t
  apart_after false = apart_f

-- T grows where a literal is made true
pub within-true : (t v : ℕ) (b : Bool) → Within 32 t (true_with v b t)
within-true t v true i c q = put_keeps t v i q
within-true t v false i c q = q

-- F grows where a literal is made true
pub within-false : (f v : ℕ) (b : Bool) → Within 32 f (false_with v b f)
within-false f v true i c q = q
within-false f v false i c q = put_keeps f v i q

-- ---- where T and F grow

module _ (rows : List Row) where
  -- the row r forces the literal of v at t, f; what of it at t', f'
  grown : (r : Row) (v t f t' f' : ℕ) → In r rows → v < 32 → forces 32 t f v r ≡ true → Within 32 t t' → Within 32 f f' → Apart t' f'
      → (b : Bool) → bit r.positive v ≡ b
      → ((t'' f'' : ℕ) → Within 32 (true_with v b t) t'' → Within 32 (false_with v b f) f'' → Apart t'' f'' → Reachable rows t'' f'')
      → Reachable rows t' f'
  grown r v t f t' f' m c w wt wf apart b sign next =
      on (free_in r t' f' v)
      (λ z. force r v m c (and_i (dead-unit r t' f' apart v c z np others) z)
      (rw sign (next _ _ (more-true b) (more-false b) (apart_after t' f' v apart (and_l (free t' f' v) _ z) b))))
      (λ z. now-set b sign next z)
    where
      e : unsatisfied_with 1 32 t f r ≡ true
      e = and_l (unsatisfied_with 1 32 t f r) _ w

      h : free_in r t f v ≡ true
      h = and_r (unsatisfied_with 1 32 t f r) _ w

      holds-v : bit r.positive v || bit r.negative v ≡ true
      holds-v = and_r (free t f v) _ h

      np : bit r.positive v && bit r.negative v ≡ false
      np = not-true _ (mp _ _
          (taut4 (λ p q t f. imp (not (satisfying p q t f)) (not (p && q))) refl (bit r.positive v) (bit r.negative v) (bit t v) (bit f v))
          (ap not (unsatisfied-none 32 r t f (with-unsatisfied 1 32 t f r e) v c)))

      others : (i : ℕ) → i < 32 → eqb i v ≡ false → dead_at r t' f' i ≡ true
      others i d q = dead_grows r t f t' f' wt wf i d (unit-dead r t f e v c h i d q)

      more-true : (b : Bool) → Within 32 (true_with v b t) (true_with v b t')
      more-true true = put_both t t' v wt
      more-true false = wt

      more-false : (b : Bool) → Within 32 (false_with v b f) (false_with v b f')
      more-false true = wf
      more-false false = put_both f f' v wf

      -- all literals are false, so a conflict is reached
      all-dead : dead_at r t' f' v ≡ true → Reachable rows t' f'
      all-dead q = conflict r m (dead_conflict r t' f' apart (λ i d. on (eqb i v) (λ z. rw (eqb-true i v z) q) (λ z. others i d z)))

      -- the variable is set already: as the row forces it, or against it
      now-set : (b : Bool) → bit r.positive v ≡ b
          → ((t'' f'' : ℕ) → Within 32 (true_with v b t) t'' → Within 32 (false_with v b f) f'' → Apart t'' f'' → Reachable rows t'' f'')
          → free_in r t' f' v ≡ false → Reachable rows t' f'
      now-set true s go z =
          on (bit t' v)
          (λ q. go t' f' (put-within t t' v wt q) wf apart)
          (λ q. all-dead (mp _ _
          (taut4 (λ p q t f. imp (p && not (p && q) && (p || q) && not (not t && not f && (p || q)) && not t) (dead p q t f)) refl
          (bit r.positive v) (bit r.negative v) (bit t' v) (bit f' v))
          (and_i (and_i (and_i (and_i s (ap not np)) holds-v) (ap not z)) (ap not q))))
      now-set false s go z =
          on (bit f' v)
          (λ q. go t' f' wt (put-within f f' v wf q) apart)
          (λ q. all-dead (mp _ _
          (taut4 (λ p q t f. imp (not p && not (p && q) && (p || q) && not (not t && not f && (p || q)) && not f) (dead p q t f)) refl
          (bit r.positive v) (bit r.negative v) (bit t' v) (bit f' v))
          (and_i (and_i (and_i (and_i (ap not s) (ap not np)) holds-v) (ap not z)) (ap not q))))

  -- from more literals that a conflict can be reached from, it can be too
  pub grows : {t f : ℕ} → Reachable rows t f → (t' f' : ℕ) → Within 32 t t' → Within 32 f f' → Apart t' f' → Reachable rows t' f'
  grows {t} {f} (conflict r m e) t' f' wt wf apart =
      conflict r m (dead_conflict r t' f' apart (λ i b. dead_grows r t f t' f' wt wf i b (conflict_dead r t f e i b)))
  grows {t} {f} (force r v m c w next) t' f' wt wf apart =
      grown r v t f t' f' m c w wt wf apart (bit r.positive v) refl (λ t'' f''. grows next t'' f'')
