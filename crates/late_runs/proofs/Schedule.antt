-- Tables with late conditions stay accepted, keep their public rows, and their rows grow, whatever the conditions are. By induction on the conditions.
use mathlib.Core.Path.{◌≡◌, refl, sym, ap, ◌∙◌, subst}
use mathlib.Core.Bool.{true, false}
use mathlib.Core.List.{List, [], ◌∷◌}
use Prim.Native.Nat.{ℕ, suc, ◌-◌, ◌≤◌, ◌<◌}
use native.Mathlib.Omega.{arith}
use lib.Dec.{leb-zero, leb-suc-suc}
use borrow.Author.Tests.{leb-true, le-leb, lt-leb}
use Rattle.words.proofs.Truth.{on, and_l, and_r}
use Rattle.dimensions.specs.declared.Dimensions.{Dimensions}
use Rattle.tables.specs.Tables.{Tables}
use Rattle.tables.specs.Rows.{rows_of_public, rows_of, rows_from}
use Rattle.tables.proofs.Accepted.{accepted}
use Rattle.late.specs.declared.Condition.{Condition}
use Rattle.late.specs.Replacement.{owns, replaced_in}
use Rattle.late.proofs.Rows.{rows_replaced, accepted_still, public_still}
use Rattle.demand2.proofs.Growth.{Grows, grows_same, grows_on, set_grows}
use Rattle.repeats.specs.Repeats.{Accepts}
use Rattle.late_runs.specs.Schedule.{Dated, legal, tables_with, due, tables_at, rows_at}
use Rattle.late_runs.specs.Host.{dated}

-- ---- when a condition is there

-- once there it is there at all later steps
due_still : (c : Dated) (j k : ℕ) → j ≤ k → due j c ≡ true → due k c ≡ true
due_still c j k b e = le-leb c.steps k (omega (arith, leb-true c.steps j e))

-- not before its steps are taken
pub not-due : (c : Dated) (k : ℕ) → k < c.steps → due k c ≡ false
not-due c k b = lt-leb c.steps k b

-- after no step, at once
pub due-first : (c : Condition) (k : ℕ) → due k (dated 0 c) ≡ true
due-first c k = leb-zero k

-- one step more on both sides
pub due-later : (c : Condition) (j k : ℕ) → due (suc k) (dated (suc j) c) ≡ due k (dated j c)
due-later c j k = leb-suc-suc j k

-- ---- the tables

-- no conditions: the tables never change
pub no_conditions : (d : Dimensions) (tables : Tables) → tables_at d tables [] ≡ (λ k. tables)
unfolding tables_at
no_conditions d tables = refl

module _ (d : Dimensions) where
  -- what one condition keeps, legal or not
  record Next (old new : Tables) : Type 0 where
    taken : Accepts d new
    same : rows_of_public d new ≡ rows_of_public d old
    grown : Grows d.n (rows_of d old) (rows_of d new)

  replaced-next : (tables : Tables) → Accepts d tables → (c : Condition) → legal d tables c ≡ true → Next tables (replaced_in d tables c)
  replaced-next tables acc c e =
      let own = owns d c.station c.replaced in
      let both = and_l _ _ e in
      record {
        taken = accepted_still d tables c acc (and_r _ _ e);
        same = ap (λ (words : List ℕ). rows_from words 0 d.public) (public_still d tables c);
        grown = subst (Grows d.n (rows_of d tables)) (sym (rows_replaced d tables c acc (and_l own _ both)))
            (set_grows d.n (accepted d tables acc).size.n-most (rows_of d tables) (c.replaced - 1) c.row (and_r own _ both));
      }

  with-next : (tables : Tables) → Accepts d tables → (c : Condition) → Next tables (tables_with d tables c)
  unfolding tables_with
  with-next tables acc c =
      on (legal d tables c) (λ e. rw e (replaced-next tables acc c e))
      (λ e. rw e (record { taken = acc; same = refl; grown = grows_same d.n (rows_of d tables) }))

  pub with-accepted : (tables : Tables) → Accepts d tables → (c : Condition) → Accepts d (tables_with d tables c)
  with-accepted tables acc c = (with-next tables acc c).taken

  -- ---- at every step

  -- accepted tables stay accepted at every step
  pub tables-accepted : (conditions : List Dated) (tables : Tables) → Accepts d tables → (k : ℕ) → Accepts d (tables_at d tables conditions k)
  unfolding tables_at
  tables-accepted [] tables acc k = acc
  tables-accepted (c ∷ more) tables acc k =
      on (due k c) (λ e. rw e (tables-accepted more (tables_with d tables c.condition) (with-accepted tables acc c.condition) k)) (λ e. rw e acc)

  pub public_stays : (conditions : List Dated) (tables : Tables) → Accepts d tables → (k : ℕ)
      → rows_of_public d (tables_at d tables conditions k) ≡ rows_of_public d tables
  unfolding tables_at
  public_stays [] tables acc k = refl
  public_stays (c ∷ more) tables acc k =
      on (due k c)
      (λ e. rw e (public_stays more (tables_with d tables c.condition) (with-accepted tables acc c.condition) k
      ∙ (with-next tables acc c.condition).same))
      (λ e. rw e)

  -- with conditions one after the other
  abbrev with_all : Tables → List Condition → Tables
  with_all tables [] = tables
  with_all tables (c ∷ more) = with_all (tables_with d tables c) more

  all-from-first : (conditions : List Dated) (tables : Tables) (k : ℕ)
      → (between : List Condition) × (tables_at d tables conditions k ≡ with_all tables between)
  unfolding tables_at
  all-from-first [] tables k = ([], refl)
  all-from-first (c ∷ more) tables k =
      on (due k c)
      (λ e. let x = all-from-first more (tables_with d tables c.condition) k in (c.condition ∷ x.0, rw e x.1))
      (λ e. ([], rw e))

  -- from any step to a later one the tables change by late conditions alone
  pub tables-next : (conditions : List Dated) (tables : Tables) (j k : ℕ) → j ≤ k
      → (between : List Condition) × (tables_at d tables conditions k ≡ with_all (tables_at d tables conditions j) between)
  unfolding tables_at
  tables-next [] tables j k b = ([], refl)
  tables-next (c ∷ more) tables j k b =
      on (due j c)
      (λ e. let x = tables-next more (tables_with d tables c.condition) j k b in (x.0, rw (e, due_still c j k b e) x.1))
      (λ e. let x = all-from-first (c ∷ more) tables k in (x.0, rw e x.1))

  from_first : (conditions : List Dated) (tables : Tables) → Accepts d tables → (k : ℕ) → Grows d.n (rows_of d tables) (rows_at d tables conditions k)
  unfolding tables_at
  from_first [] tables acc k = grows_same d.n (rows_of d tables)
  from_first (c ∷ more) tables acc k =
      on (due k c)
      (λ e. rw e (let next = tables_with d tables c.condition in
      grows_on d.n (rows_of d tables) (rows_of d next) (rows_at d next more k)
      (with-next tables acc c.condition).grown (from_first more next (with-accepted tables acc c.condition) k)))
      (λ e. rw e (grows_same d.n (rows_of d tables)))

  -- from any step to a later one
  pub rows_grow : (conditions : List Dated) (tables : Tables) → Accepts d tables → (j k : ℕ) → j ≤ k → Grows d.n (rows_at d tables conditions j)
      (rows_at d tables conditions k)
  unfolding tables_at
  rows_grow [] tables acc j k b = grows_same d.n (rows_of d tables)
  rows_grow (c ∷ more) tables acc j k b =
      on (due j c)
      (λ e. rw (e, due_still c j k b e) (rows_grow more (tables_with d tables c.condition) (with-accepted tables acc c.condition) j k b))
      (λ e. rw e (from_first (c ∷ more) tables acc k))
