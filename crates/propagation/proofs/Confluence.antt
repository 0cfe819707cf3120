-- The order in which literals are forced makes no difference: `reaches`, which takes the lowest variable first, finds a conflict wherever some order does, and
-- only there. So it depends on which rows there are, and not on their order or number.
use mathlib.Core.Path.{◌≡◌, refl, sym, ap, ◌∙◌}
use mathlib.Core.Bool.{Bool, true, false, not, ◌&&◌, true≢false, false≢true}
use mathlib.Core.List.{List}
use Prim.Native.Nat.{ℕ, zero, suc, ◌<◌}
use native.Mathlib.Nat.{not-suc-le-zero}
use native.Mathlib.Omega.{arith}
use borrow.Author.Tests.{not-true}
use Rattle.words.specs.declared.Row.{Row}
use Rattle.words.specs.Booleans.{imp}
use Rattle.words.specs.Sets.{bit}
use Rattle.words.proofs.Truth.{and_l, and_i, mp, on, taut2}
use Rattle.words.proofs.Upto.{any_none, count_le}
use Rattle.tables.specs.Rows.{padding, free}
use Rattle.scan.specs.Rules.{any_row, unsatisfied_with, forced_variable, forced_true}
use Rattle.scan.proofs.RowLaws.{In, any-row_e, no_row}
use Rattle.truth.proofs.RuleLaws.{Forces, forced-forces}
use Rattle.truth.proofs.FreeVariables.{free_among, free_le, free-less_t, free-less-f}
use Rattle.propagation.specs.Propagation.{true_with, false_with, reaches, follows}
use Rattle.propagation.specs.Orders.{Reachable, conflict, force}
use Rattle.propagation.specs.Passes.{Apart}
use Rattle.propagation.proofs.Growth.{apart_after, within-true, within-false, grows}

-- how many variables are free
abbrev pub unset : ℕ → ℕ → ℕ
unset t f = free_among (λ i. true) 32 t f

-- with a literal of a free variable made true, fewer variables are free
pub fewer : (t f v : ℕ) (b : Bool) → v < 32 → free t f v ≡ true → unset (true_with v b t) (false_with v b f) < unset t f
fewer t f v true c q = free-less_t 32 t f v c q (λ i. true) refl
fewer t f v false c q = free-less-f 32 t f v c q (λ i. true) refl

-- no row of the list passes
pub none_in : (rows : List Row) (p : Row → Bool) → any_row p rows ≡ false → (r : Row) → In r rows → p r ≡ false
none_in rows p e r m = not-true (p r) (m (λ x. not (p x)) (no_row p rows e))

module _ (rows : List Row) where
  -- where no row is in conflict and none forces a literal, no conflict can be reached
  pub not_reachable : (t f : ℕ) → ((r : Row) → In r rows → unsatisfied_with 0 32 t f r ≡ false)
      → ((r : Row) → In r rows → unsatisfied_with 1 32 t f r ≡ false) → Reachable rows t f → ⊥
  not_reachable t f c u (conflict r m e) = true≢false (sym e ∙ c r m)
  not_reachable t f c u (force r v m b w next) = true≢false (sym (and_l (unsatisfied_with 1 32 t f r) _ w) ∙ u r m)

  -- a literal that a row forces
  pub reach_on : {t f v : ℕ} {b : Bool} → Forces 32 rows t f v b → Reachable rows (true_with v b t) (false_with v b f) → Reachable rows t f
  reach_on {t} {f} {v} {b} w h = force w.row v w.of_rows w.low (and_i w.one-literal w.free_there) (rw (← w.sign) h)

  sound : (k t f : ℕ) → reaches k rows t f ≡ true → Reachable rows t f
  unfolding reaches
  sound zero t f h = absurd (false≢true h)
  sound (suc k) t f h =
      let next = sound k in
      on (any_row (unsatisfied_with 0 32 t f) rows)
      (λ c. let x = any-row_e (unsatisfied_with 0 32 t f) rows c in conflict x.0 x.1 x.2)
      (λ c. on (any_row (unsatisfied_with 1 32 t f) rows)
      (λ u. reach_on (forced-forces 32 rows t f u) (next _ _ (rw (c, u, reaches) at h)))
      (λ u. absurd (false≢true (rw (c, u, reaches) at h))))

  complete : (k t f : ℕ) → unset t f < k → Apart t f → Reachable rows t f → reaches k rows t f ≡ true
  unfolding reaches
  complete zero t f few apart h = absurd (not-suc-le-zero few)
  complete (suc k) t f few apart h =
      let next = complete k in
      on (any_row (unsatisfied_with 0 32 t f) rows)
      (λ c. rw (c, reaches))
      (λ c. on (any_row (unsatisfied_with 1 32 t f) rows)
      (λ u. let w = forced-forces 32 rows t f u in
      let v = forced_variable 32 rows t f in
      let b = forced_true 32 rows t f v in
      let open-v = and_l (free t f v) _ w.free_there in
      let apart' = apart_after t f v apart open-v b in
      rw (c, u, reaches) (next (true_with v b t) (false_with v b f) (omega (arith, fewer t f v b w.low open-v)) apart'
      (grows rows h (true_with v b t) (false_with v b f) (within-true t v b) (within-false f v b) apart')))
      (λ u. absurd (not_reachable t f (none_in rows (unsatisfied_with 0 32 t f) c) (none_in rows (unsatisfied_with 1 32 t f) u) h)))

  -- where a conflict can be reached in some order, `reaches` finds one
  pub reachable_reaches : (t f : ℕ) → Apart t f → Reachable rows t f → reaches 33 rows t f ≡ true
  reachable_reaches t f apart h = complete 33 t f (omega (arith, free_le (λ i. true) 32 t f, count_le (λ i. true) 32)) apart h

  -- where none can, it finds none
  pub unreachable_reaches : (t f : ℕ) → (Reachable rows t f → ⊥) → reaches 33 rows t f ≡ false
  unreachable_reaches t f none = on (reaches 33 rows t f) (λ e. absurd (none (sound 33 t f e))) (λ e. e)

  -- ---- a clause follows exactly if some order of forcing reaches a conflict

  -- the negation of a clause that is no padding sets no variable true and false
  pub negation_apart : (c : Row) → padding 32 c ≡ false → Apart c.negative c.positive
  unfolding padding
  negation_apart c np i b =
      not-true _ (mp _ _ (taut2 (λ p q. imp (not (p && q)) (not (q && p))) refl (bit c.positive i) (bit c.negative i))
      (ap not (any_none (λ i. bit c.positive i && bit c.negative i) 32 np i b)))

  -- from the negation of a clause that follows and is no padding a conflict can be reached
  pub follows_reachable : (c : Row) → padding 32 c ≡ false → follows rows c ≡ true → Reachable rows c.negative c.positive
  unfolding follows
  follows_reachable c np h = sound 33 c.negative c.positive (rw np at h)

  -- a clause follows if a conflict can be reached from its negation, in whatever order
  pub reachable_follows : (c : Row) → Reachable rows c.negative c.positive → follows rows c ≡ true
  unfolding follows
  reachable_follows c h =
      on (padding 32 c) (λ q. rw q) (λ q. rw q (reachable_reaches c.negative c.positive (negation_apart c q) h))

-- a conflict that can be reached over some rows can be over rows that hold all of them, in whatever order and number
pub rows_alike : (rows rows' : List Row) → ((r : Row) → In r rows → In r rows') → {t f : ℕ} → Reachable rows t f → Reachable rows' t f
rows_alike rows rows' inc (conflict r m e) = conflict r (inc r m) e
rows_alike rows rows' inc (force r v m c w next) = force r v (inc r m) c w (rows_alike rows rows' inc next)

-- a clause that follows goes on to follow when rows are added, wherever they are put
pub more-rows-follow : (rows rows' : List Row) → ((r : Row) → In r rows → In r rows') → (c : Row) → follows rows c ≡ true → follows rows' c ≡ true
unfolding follows
more-rows-follow rows rows' inc c h =
    on (padding 32 c) (λ q. rw q) (λ q. reachable_follows rows' c (rows_alike rows rows' inc (follows_reachable rows c q h)))

-- what follows depends on which rows there are, and not on their order or number
pub same-rows-follow : (rows rows' : List Row) → ((r : Row) → In r rows → In r rows') → ((r : Row) → In r rows' → In r rows)
    → (c : Row) → follows rows c ≡ follows rows' c
same-rows-follow rows rows' inc inc' c =
    on (follows rows c)
    (λ h. h ∙ sym (more-rows-follow rows rows' inc c h))
    (λ h. on (follows rows' c) (λ h'. absurd (true≢false (sym (more-rows-follow rows' rows inc' c h') ∙ h))) (λ h'. h ∙ sym h'))
