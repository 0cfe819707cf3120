-- What holds where each rule of the giant step applies. The tests of `rule` are gone through in its order.
use mathlib.Core.Path.{◌≡◌, refl, sym, ap, ◌∙◌}
use mathlib.Core.Bool.{Bool, true, false, not, ◌&&◌, true≢false}
use mathlib.Core.List.{List}
use Prim.Native.Nat.{ℕ, zero, suc, ◌<◌}
use native.Mathlib.Nat.{zero-lt-suc}
use native.Mathlib.Omega.{arith}
use borrow.Author.Tests.{eqb-true, eq-eqb, not-true}
use Rattle.words.specs.declared.Row.{Row}
use Rattle.words.specs.Sets.{bit, count}
use Rattle.words.proofs.Truth.{and_l, and_r, and_i, on}
use Rattle.words.proofs.Upto.{count-some, lowest_hit}
use Rattle.tables.specs.Rows.{padding, satisfied, free, holds, free_in}
use Rattle.tables.proofs.Rows.{unsatisfied-padding, unsatisfied-literals}
use Rattle.scan.specs.declared.Rule.{Rule}
use Rattle.scan.specs.declared.Rule.TheVariants.{AllSatisfied, Conflict, Unit, Choice}
use Rattle.scan.specs.Rules.{all_rows, any_row, unsatisfied_with, forces, forced_variable, forced_true, unit_or, choice, rule}
use Rattle.truth.specs.Truth.{occurs}
use Rattle.scan.proofs.RowLaws.{In, any-row_e, any-row-i, not-all-rows, no_row}

-- ---- what holds

-- an unsatisfied row without a free literal
pub record Conflicts (n : ℕ) (rows : List Row) (t f : ℕ) : Type 0 where
  pub row : Row
  pub of_rows : In row rows
  pub no_literal : unsatisfied_with 0 n t f row ≡ true

-- an unsatisfied row whose one free literal has this variable and this sign
pub record Forces (n : ℕ) (rows : List Row) (t f v : ℕ) (positive : Bool) : Type 0 where
  pub row : Row
  pub of_rows : In row rows
  pub one-literal : unsatisfied_with 1 n t f row ≡ true
  pub low : v < n
  pub free_there : free_in row t f v ≡ true
  pub sign : positive ≡ bit row.positive v

-- an unsatisfied row in which the variable is free
pub record Chooses (n : ℕ) (rows : List Row) (t f v : ℕ) : Type 0 where
  pub row : Row
  pub of_rows : In row rows
  pub unsatisfied : satisfied n row t f ≡ false
  pub low : v < n
  pub free_there : free_in row t f v ≡ true

-- what holds where the rule applies
abbrev pub Ruled : ℕ → List Row → ℕ → ℕ → Rule → Type 0
Ruled n rows t f AllSatisfied = all_rows (λ r. satisfied n r t f) rows ≡ true
Ruled n rows t f Conflict = Conflicts n rows t f
Ruled n rows t f (Unit v positive) = Forces n rows t f v positive
Ruled n rows t f (Choice v) = Chooses n rows t f v

-- the rule that the ruling gives applies, whatever the rows, T and F: what demand 2 asks of a ruling
abbrev pub Applies : (ℕ → List Row → ℕ → ℕ → Rule) → Type 0
Applies ruling = (n : ℕ) (rows : List Row) (t f : ℕ) → Ruled n rows t f (ruling n rows t f)

-- a variable that a rule may set: below n, free, and in a row that is no padding
pub record Settable (n : ℕ) (rows : List Row) (t f v : ℕ) : Type 0 where
  pub low : v < n
  pub is_free : free t f v ≡ true
  pub occurring : occurs n rows v ≡ true

-- ---- rows with k free literals

module _ (k n t f : ℕ) (r : Row) (e : unsatisfied_with k n t f r ≡ true) where
  -- what passes as unsatisfied with exactly k free literals is an unsatisfied row
  pub with-unsatisfied : satisfied n r t f ≡ false
  unfolding unsatisfied_with
  with-unsatisfied = not-true _ (and_l (not (satisfied n r t f)) _ e)

  -- an unsatisfied row with exactly k free literals holds exactly k free variables
  pub with-count : count (λ i. free_in r t f i) n ≡ k
  unfolding unsatisfied_with
  with-count = sym (unsatisfied-literals n r t f with-unsatisfied) ∙ eqb-true _ k (and_r (not (satisfied n r t f)) _ e)

-- an unsatisfied row that is not in conflict holds a free variable
pub with-some : (n t f : ℕ) (r : Row) → satisfied n r t f ≡ false → unsatisfied_with 0 n t f r ≡ false → 0 < count (λ i. free_in r t f i) n
unfolding unsatisfied_with
with-some n t f r e h = go (count (λ i. free_in r t f i) n) refl
  where
    go : (c : ℕ) → count (λ i. free_in r t f i) n ≡ c → 0 < c
    go zero q = absurd (true≢false (sym (and_i (ap not e) (eq-eqb _ 0 (unsatisfied-literals n r t f e ∙ q))) ∙ h))
    go (suc c) q = zero-lt-suc c

-- ---- the rule that applies

module _ (n : ℕ) (rows : List Row) (t f : ℕ) where
  -- some row is a unit row, so some variable is forced
  pub forced_hit : any_row (unsatisfied_with 1 n t f) rows ≡ true
      → (forced_variable n rows t f < n) × (any_row (forces n t f (forced_variable n rows t f)) rows ≡ true)
  unfolding forced_variable
  forced_hit e =
      let x = any-row_e (unsatisfied_with 1 n t f) rows e in
      let i = count-some (λ i. free_in x.0 t f i) n (omega (arith, with-count 1 n t f x.0 x.2)) in
      lowest_hit (λ i. any_row (forces n t f i) rows) n i.0 i.1 (any-row-i (forces n t f i.0) rows x.0 x.1 (and_i x.2 i.2))

  -- a row that forces the variable, in the sign that is taken
  forced-row : (v : ℕ) → any_row (forces n t f v) rows ≡ true
      → (r : Row) × In r rows × (forces n t f v r ≡ true) × (forced_true n rows t f v ≡ bit r.positive v)
  unfolding forced_true
  forced-row v e =
      on (forced_true n rows t f v)
      (λ q. let x = any-row_e (λ r. forces n t f v r && bit r.positive v) rows q in
      (x.0, x.1, and_l (forces n t f v x.0) _ x.2, q ∙ sym (and_r (forces n t f v x.0) _ x.2)))
      (λ q. let x = any-row_e (forces n t f v) rows e in (
        x.0,
        x.1,
        x.2,
        q ∙ sym (on (bit x.0.positive v)
            (λ b. absurd (true≢false (sym (any-row-i (λ r. forces n t f v r && bit r.positive v) rows x.0 x.1 (and_i x.2 b)) ∙ q)))
            (λ b. b)),
      ))

  -- where some row is a unit row, some row forces the lowest forced variable, in the sign that is taken
  pub forced-forces : any_row (unsatisfied_with 1 n t f) rows ≡ true
      → let v = forced_variable n rows t f in Forces n rows t f v (forced_true n rows t f v)
  forced-forces e =
      let v = forced_hit e in
      let x = forced-row (forced_variable n rows t f) v.1 in
      record {
        row = x.0;
        of_rows = x.1;
        one-literal = and_l (unsatisfied_with 1 n t f x.0) _ x.2;
        low = v.0;
        free_there = and_r (unsatisfied_with 1 n t f x.0) _ x.2;
        sign = x.3;
      }

  -- rule 3
  ruled_unit : (other : Rule) → Ruled n rows t f other → Ruled n rows t f (unit_or n t f rows other)
  unfolding unit_or
  ruled_unit other h =
      on (any_row (unsatisfied_with 1 n t f) rows)
      (λ e. rw (e, unit_or) (forced-forces e))
      (λ e. rw (e, unit_or) h)

  module _ (e₁ : all_rows (λ r. satisfied n r t f) rows ≡ false) (e₂ : any_row (unsatisfied_with 0 n t f) rows ≡ false) where
    -- some row is not satisfied and none is in conflict, so some variable can be chosen
    pub choice_hit : (choice n rows t f < n) × (any_row (λ r. not (satisfied n r t f) && free_in r t f (choice n rows t f)) rows ≡ true)
    unfolding choice
    choice_hit =
        let x = not-all-rows (λ r. satisfied n r t f) rows e₁ in
        let r : Row = x.0 in
        let c : unsatisfied_with 0 n t f r ≡ false = not-true _ (x.1 (λ r. not (unsatisfied_with 0 n t f r)) (no_row (unsatisfied_with 0 n t f) rows e₂)) in
        let i = count-some (λ i. free_in r t f i) n (with-some n t f r x.2 c) in
        lowest_hit (λ i. any_row (λ r. not (satisfied n r t f) && free_in r t f i) rows) n i.0 i.1
        (any-row-i (λ r. not (satisfied n r t f) && free_in r t f i.0) rows r x.1 (and_i (ap not x.2) i.2))

    ruled_choice : Ruled n rows t f (Choice (choice n rows t f))
    ruled_choice =
        let v = choice_hit in
        let y = any-row_e (λ r. not (satisfied n r t f) && free_in r t f (choice n rows t f)) rows v.1 in
        record {
          row = y.0;
          of_rows = y.1;
          unsatisfied = not-true _ (and_l (not (satisfied n y.0 t f)) _ y.2);
          low = v.0;
          free_there = and_r (not (satisfied n y.0 t f)) _ y.2;
        }

  -- the rule found applies: all rows satisfied, a row in conflict, a row that forces its literal, or an unsatisfied row where its variable is free
  pub ruled : Ruled n rows t f (rule n rows t f)
  unfolding rule
  ruled =
      on (all_rows (λ r. satisfied n r t f) rows)
      (λ e. rw (e, rule) e)
      (λ e₁. on (any_row (unsatisfied_with 0 n t f) rows)
      (λ e₂. rw (e₁, rule) (rw e₂ (let x = any-row_e (unsatisfied_with 0 n t f) rows e₂ in record { row = x.0; of_rows = x.1; no_literal = x.2 })))
      (λ e₂. rw (e₁, rule) (rw e₂ (ruled_unit (Choice (choice n rows t f)) (ruled_choice e₁ e₂)))))

  -- ---- a rule's variable

  settable : (v : ℕ) (r : Row) → In r rows → satisfied n r t f ≡ false → v < n → free_in r t f v ≡ true → Settable n rows t f v
  unfolding occurs
  settable v r m e b h = record {
    low = b;
    is_free = and_l (free t f v) _ h;
    occurring = any-row-i (λ r. not (padding n r) && holds r v) rows r m (and_i (ap not (unsatisfied-padding n r t f e)) (and_r (free t f v) _ h));
  }

  -- a variable that a row forces may be set: it is below n, free, and in a row that is no padding
  pub unit_settable : {v : ℕ} {positive : Bool} → Forces n rows t f v positive → Settable n rows t f v
  unit_settable {v = v} w = settable v w.row w.of_rows (with-unsatisfied 1 n t f w.row w.one-literal) w.low w.free_there

  -- a variable below n that is free in an unsatisfied row may be set: that row is no padding
  pub choice_settable : {v : ℕ} → Chooses n rows t f v → Settable n rows t f v
  choice_settable {v = v} w = settable v w.row w.of_rows w.unsatisfied w.low w.free_there

  -- where rule 3 is the one found, its variable is below n, free, and in a row that is no padding
  pub rule-unit : (v : ℕ) (positive : Bool) → rule n rows t f ≡ Unit v positive → Settable n rows t f v
  rule-unit v positive e = unit_settable (rw e at ruled)

  -- where rule 4 is the one found, its variable is below n, free, and in a row that is no padding
  pub rule-choice : (v : ℕ) → rule n rows t f ≡ Choice v → Settable n rows t f v
  rule-choice v e = choice_settable (rw e at ruled)
