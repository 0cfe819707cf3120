-- A pass over rows keeps what can be reached, and ends in a conflict, with fewer variables free, or where nothing is forced. By induction on the rows, each in
-- conflict, with one free literal, or neither.
use mathlib.Core.Path.{◌≡◌, refl, sym, ap, ◌∙◌}
use mathlib.Core.Logic.{◌⊎◌, inl, inr}
use mathlib.Core.Bool.{Bool, true, false, not, ◌&&◌, true≢false, false≢true}
use mathlib.Core.List.{List, [], ◌∷◌}
use Prim.Native.Nat.{ℕ, suc, ◌+◌, ◌-◌, ◌≤◌, ◌<◌}
use native.Mathlib.Numerals.{add-one}
use native.Mathlib.Omega.{arith}
use lib.Dec.{eqb}
use borrow.Author.Tests.{eq-eqb, eqb-true, not-true}
use Rattle.words.specs.declared.Row.{Row}
use Rattle.words.specs.Sets.{bit, lowest}
use Rattle.words.proofs.Truth.{and_l, and_r, and_i, on}
use Rattle.words.proofs.Upto.{count-some, lowest_hit}
use Rattle.words.proofs.Bits.{Within}
use Rattle.tables.specs.Rows.{row_at, rows_from, free, free_in}
use Rattle.scan.specs.Rules.{all_rows, unsatisfied_with}
use Rattle.scan.proofs.RowLaws.{In, in_head, in_tail}
use Rattle.truth.proofs.RuleLaws.{with-count}
use Rattle.propagation.specs.declared.Propagated.{Propagated}
use Rattle.propagation.specs.Propagation.{true_with, false_with, reaches}
use Rattle.propagation.specs.Orders.{Reachable, conflict, force}
use Rattle.propagation.specs.Passes.{Apart, after_row, after_rows}
use Rattle.propagation.proofs.Growth.{apart_after, within-true, within-false, grows}
use Rattle.propagation.proofs.Confluence.{unset, fewer, not_reachable, reachable_reaches, unreachable_reaches}
use Rattle.propagation.proofs.RowPass.{at}

-- ---- one row after the other

module _ (words : List ℕ) (count t f : ℕ) where
  -- what the rows left give is what all give
  pub record Left (i held denied : ℕ) : Type 0 where
    pub same : after_rows (rows_from words i (count - i)) held denied ≡ after_rows (rows_from words 0 count) t f

  pub left-start : Left 0 t f
  left-start = record { same = ap (λ (k : ℕ). after_rows (rows_from words 0 k) t f) (let e : count - 0 ≡ count = omega arith in e) }

  module _ (i held denied : ℕ) (l : Left i held denied) where
    first : i < count → rows_from words i (count - i) ≡ row_at words i ∷ rows_from words (i + 1) (count - (i + 1))
    first h =
        ap (λ (k : ℕ). rows_from words i k) (let e : count - i ≡ suc (count - (i + 1)) = omega arith in e)
        ∙ ap (λ (k : ℕ). row_at words i ∷ rows_from words k (count - (i + 1))) (sym (add-one i))

    module _ (h : i < count) (x : Propagated) (e : x ≡ after_row (row_at words i) held denied) where
      pub left_conflict : x.conflict ≡ true → x ≡ after_rows (rows_from words 0 count) t f
      unfolding after_rows
      left_conflict c =
          let c' : (after_row (row_at words i) held denied).conflict ≡ true = ap (λ (y : Propagated). y.conflict) (sym e) ∙ c in
          e ∙ sym (ap (λ (rs : List Row). after_rows rs held denied) (first h) ∙ rw c' refl) ∙ l.same

      pub left-more : x.conflict ≡ false → Left (i + 1) x.t x.f
      unfolding after_rows
      left-more c =
          let c' : (after_row (row_at words i) held denied).conflict ≡ false = ap (λ (y : Propagated). y.conflict) (sym e) ∙ c in
          record {
            same =
                ap (λ (y : Propagated). after_rows (rows_from words (i + 1) (count - (i + 1))) y.t y.f) e
                ∙ sym (ap (λ (rs : List Row). after_rows rs held denied) (first h) ∙ rw c' refl) ∙ l.same;
          }

    pub left_end : count ≤ i → at held denied ≡ after_rows (rows_from words 0 count) t f
    unfolding after_rows
    left_end h = ap (λ (k : ℕ). after_rows (rows_from words i k) held denied) (let e : 0 ≡ count - i = omega arith in e) ∙ l.same

-- ---- what a pass keeps

-- no row is in conflict, and none forces a literal
pub record Quiet (t f : ℕ) (rs : List Row) : Type 0 where
  pub no_conflict : all_rows (λ r. not (unsatisfied_with 0 32 t f r)) rs ≡ true
  pub no_unit : all_rows (λ r. not (unsatisfied_with 1 32 t f r)) rs ≡ true

-- a pass changed nothing, since nothing is forced, or left fewer variables free
abbrev Ended : ℕ → ℕ → List Row → Propagated → Type 0
Ended t f rs x = ((x ≡ at t f) × Quiet t f rs) ⊎ (unset x.t x.f < unset t f)

module _ (rows : List Row) where
  -- where a pass over some of the rows has come
  pub record Behind (t f : ℕ) (rs : List Row) (x : Propagated) : Type 0 where
    pub reached : x.conflict ≡ true → Reachable rows t f
    pub back : Reachable rows x.t x.f → Reachable rows t f
    pub apart : Apart x.t x.f
    pub in_t : Within 32 t x.t
    pub in_f : Within 32 f x.f
    pub ended : x.conflict ≡ false → Ended t f rs x

  -- after a row in conflict
  stopped : (t f : ℕ) (r : Row) (rs : List Row) → In r rows → Apart t f → unsatisfied_with 0 32 t f r ≡ true
      → Behind t f (r ∷ rs) (record { conflict = true; t = t; f = f })
  stopped t f r rs m a c = record {
    reached = λ q. conflict r m c;
    back = λ h. h;
    apart = a;
    in_t = λ i b h. h;
    in_f = λ i b h. h;
    ended = λ q. absurd (true≢false q);
  }

  -- after a row with one free literal, and then others
  module _ (t f : ℕ) (r : Row) (rs : List Row) (m : In r rows) (a : Apart t f) (u : unsatisfied_with 1 32 t f r ≡ true) where
    abbrev v : ℕ
    v = lowest (λ i. free_in r t f i) 32

    abbrev b : Bool
    b = bit r.positive v

    hit : (v < 32) × (free_in r t f v ≡ true)
    hit =
        let i = count-some (λ i. free_in r t f i) 32 (omega (arith, with-count 1 32 t f r u)) in
        lowest_hit (λ i. free_in r t f i) 32 i.0 i.1 i.2

    is_free : free t f v ≡ true
    is_free = and_l (free t f v) _ hit.1

    forced_apart : Apart (true_with v b t) (false_with v b f)
    forced_apart = apart_after t f v a is_free b

    back_one : Reachable rows (true_with v b t) (false_with v b f) → Reachable rows t f
    back_one = force r v m hit.0 (and_i u hit.1)

    forced-behind : (x : Propagated) → Behind (true_with v b t) (false_with v b f) rs x → Behind t f (r ∷ rs) x
    forced-behind x w = record {
      reached = λ q. back_one (w.reached q);
      back = λ h. back_one (w.back h);
      apart = w.apart;
      in_t = λ i c h. w.in_t i c (within-true t v b i c h);
      in_f = λ i c h. w.in_f i c (within-false f v b i c h);
      ended = λ q. go (w.ended q);
    }
      where
        go : Ended (true_with v b t) (false_with v b f) rs x → Ended t f (r ∷ rs) x
        go (inl (e, s)) = inr (rw e (fewer t f v b hit.0 is_free))
        go (inr l) = inr (let k = fewer t f v b hit.0 is_free in omega (arith, l, k))

  -- after a row that is neither, and then others
  module _ (t f : ℕ) (r : Row) (rs : List Row) (c : unsatisfied_with 0 32 t f r ≡ false) (u : unsatisfied_with 1 32 t f r ≡ false) where
    passed : (x : Propagated) → Behind t f rs x → Behind t f (r ∷ rs) x
    unfolding all_rows
    passed x w = record {
      reached = w.reached;
      back = w.back;
      apart = w.apart;
      in_t = w.in_t;
      in_f = w.in_f;
      ended = λ q. go (w.ended q);
    }
      where
        more : Quiet t f rs → Quiet t f (r ∷ rs)
        more s = record { no_conflict = and_i (ap not c) s.no_conflict; no_unit = and_i (ap not u) s.no_unit }

        go : Ended t f rs x → Ended t f (r ∷ rs) x
        go (inl (e, s)) = inl (e, more s)
        go (inr l) = inr l

  pub pass_behind : (rs : List Row) → ((r : Row) → In r rs → In r rows) → (t f : ℕ) → Apart t f → Behind t f rs (after_rows rs t f)
  unfolding after_rows all_rows
  pass_behind [] inc t f a = record {
    reached = λ q. absurd (false≢true q);
    back = λ h. h;
    apart = a;
    in_t = λ i b h. h;
    in_f = λ i b h. h;
    ended = λ q. inl (refl, record { no_conflict = refl; no_unit = refl });
  }
  pass_behind (r ∷ rs) inc t f a =
      let next = pass_behind rs (λ x m. inc x (in_tail x r rs m)) in
      let m = inc r (in_head r rs) in
      on (unsatisfied_with 0 32 t f r)
      (λ c. rw c (stopped t f r rs m a c))
      (λ c. on (unsatisfied_with 1 32 t f r)
      (λ u. rw (c, u) (forced-behind t f r rs m a u _ (next _ _ (forced_apart t f r rs m a u))))
      (λ u. rw (c, u) (passed t f r rs c u _ (next t f a))))

  -- ---- pass after pass

  -- what can be reached is the same as at the start
  pub record Same (t f held denied : ℕ) : Type 0 where
    pub apart : Apart held denied
    pub back : Reachable rows held denied → Reachable rows t f
    pub in_t : Within 32 t held
    pub in_f : Within 32 f denied

  pub same_start : (t f : ℕ) → Apart t f → Same t f t f
  same_start t f a = record { apart = a; back = λ h. h; in_t = λ i b h. h; in_f = λ i b h. h }

  module _ (t f held denied : ℕ) (a : Apart t f) (s : Same t f held denied) (x : Propagated) (e : x ≡ after_rows rows held denied) where
    behind : Behind held denied rows x
    behind = rw e (pass_behind rows (λ r m. m) held denied s.apart)

    pub same_conflict : x.conflict ≡ true → true ≡ reaches 33 rows t f
    same_conflict c = sym (reachable_reaches rows t f a (s.back (behind.reached c)))

    module _ (c : x.conflict ≡ false) where
      -- a pass that changed nothing
      pub same_quiet : eqb x.t held && eqb x.f denied ≡ true → false ≡ reaches 33 rows t f
      same_quiet q = sym (unreachable_reaches rows t f (go (behind.ended c)))
        where
          alike : unset x.t x.f ≡ unset held denied
          alike =
              ap (λ (w : ℕ). unset w x.f) (eqb-true x.t held (and_l (eqb x.t held) _ q))
              ∙ ap (λ (w : ℕ). unset held w) (eqb-true x.f denied (and_r (eqb x.t held) _ q))

          go : Ended held denied rows x → Reachable rows t f → ⊥
          go (inl (y, z)) h =
              not_reachable rows held denied
              (λ r m. not-true _ (m (λ r. not (unsatisfied_with 0 32 held denied r)) z.no_conflict))
              (λ r m. not-true _ (m (λ r. not (unsatisfied_with 1 32 held denied r)) z.no_unit))
              (grows rows h held denied s.in_t s.in_f s.apart)
          go (inr l) h = omega (arith, l, alike)

      -- a pass that forced a literal
      pub same-less : eqb x.t held && eqb x.f denied ≡ false → unset x.t x.f < unset held denied
      same-less q = go (behind.ended c)
        where
          go : Ended held denied rows x → unset x.t x.f < unset held denied
          go (inl (y, z)) =
              let same-t = eq-eqb _ held (ap (λ (r : Propagated). r.t) y) in
              let same-f = eq-eqb _ denied (ap (λ (r : Propagated). r.f) y) in
              absurd (true≢false (sym (and_i same-t same-f) ∙ q))
          go (inr l) = l

      pub same_more : Same t f x.t x.f
      same_more = record {
        apart = behind.apart;
        back = λ h. s.back (behind.back h);
        in_t = λ i b h. behind.in_t i b (s.in_t i b h);
        in_f = λ i b h. behind.in_f i b (s.in_f i b h);
      }
