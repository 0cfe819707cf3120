-- Rows whose words are below 2 ^ n call for the same rule at every greater width: each row is judged alike, and the lowest variable found is below n.
use mathlib.Core.Path.{◌≡◌, ap, ap₂, ◌∙◌, fun_ext}
use mathlib.Core.Bool.{Bool, true, false, not, ◌&&◌}
use mathlib.Core.List.{List}
use Prim.Native.Nat.{ℕ, ◌≤◌}
use lib.Dec.{eqb}
use Rattle.words.specs.declared.Row.{Row}
use Rattle.words.specs.Sets.{bit, lowest}
use Rattle.words.proofs.Truth.{on}
use Rattle.words.proofs.Upto.{lowest_width}
use Rattle.tables.specs.Rows.{satisfied, free_in}
use Rattle.tables.proofs.Rows.{satisfied_width, literals_width}
use Rattle.scan.specs.declared.Rule.{Rule}
use Rattle.scan.specs.declared.Rule.TheVariants.{Unit, Choice}
use Rattle.scan.specs.Rules.{all_rows, any_row, unsatisfied_with, forces, forced_variable, forced_true, unit_or, choice, rule}
use Rattle.scan.proofs.RowLaws.{all-rows_cong, any-row_cong}
use Rattle.truth.proofs.RuleLaws.{forced_hit, choice_hit}
use Rattle.tables.specs.Acceptance.{low_row}
use Rattle.truth.proofs.LowRows.{low-positive, low-negative}

module _ (n k : ℕ) (wide : n ≤ k) (t f : ℕ) where
  satisfied-alike : (r : Row) → low_row n r ≡ true → satisfied k r t f ≡ satisfied n r t f
  satisfied-alike r low = satisfied_width n k r t f wide (low-positive n r low) (low-negative n r low)

  -- a row without a bit at or above n is unsatisfied with exactly j free literals at a width k, at least n, exactly where it is so at n
  pub with-alike : (j : ℕ) (r : Row) → low_row n r ≡ true → unsatisfied_with j k t f r ≡ unsatisfied_with j n t f r
  unfolding unsatisfied_with
  with-alike j r low =
      ap₂ (λ (b : Bool) (c : ℕ). not b && eqb c j) (satisfied-alike r low)
      (literals_width n k r t f wide (low-positive n r low) (low-negative n r low))

  module _ (rows : List Row) (low : all_rows (low_row n) rows ≡ true) where
    all_alike : all_rows (λ r. satisfied k r t f) rows ≡ all_rows (λ r. satisfied n r t f) rows
    all_alike = all-rows_cong (λ r. satisfied k r t f) (λ r. satisfied n r t f) rows (λ r m. satisfied-alike r (m (low_row n) low))

    conflict_alike : any_row (unsatisfied_with 0 k t f) rows ≡ any_row (unsatisfied_with 0 n t f) rows
    conflict_alike = any-row_cong (unsatisfied_with 0 k t f) (unsatisfied_with 0 n t f) rows (λ r m. with-alike 0 r (m (low_row n) low))

    unit-alike : any_row (unsatisfied_with 1 k t f) rows ≡ any_row (unsatisfied_with 1 n t f) rows
    unit-alike = any-row_cong (unsatisfied_with 1 k t f) (unsatisfied_with 1 n t f) rows (λ r m. with-alike 1 r (m (low_row n) low))

    variable_alike : any_row (unsatisfied_with 1 n t f) rows ≡ true → forced_variable k rows t f ≡ forced_variable n rows t f
    unfolding forced_variable
    variable_alike e =
        let v = forced_hit n rows t f e in
        ap (λ (p : ℕ → Bool). lowest p k)
        (fun_ext (λ i. any-row_cong (forces k t f i) (forces n t f i) rows
        (λ r m. ap (λ (b : Bool). b && free_in r t f i) (with-alike 1 r (m (low_row n) low)))))
        ∙ lowest_width (λ i. any_row (forces n t f i) rows) n k (forced_variable n rows t f) wide v.0 v.1

    true-alike : (v : ℕ) → forced_true k rows t f v ≡ forced_true n rows t f v
    unfolding forced_true
    true-alike v =
        any-row_cong (λ r. forces k t f v r && bit r.positive v) (λ r. forces n t f v r && bit r.positive v) rows
        (λ r m. ap (λ (b : Bool). (b && free_in r t f v) && bit r.positive v) (with-alike 1 r (m (low_row n) low)))

    -- rule 3
    forced-alike : (other : Rule) → unit_or k t f rows other ≡ unit_or n t f rows other
    unfolding unit_or
    forced-alike other =
        on (any_row (unsatisfied_with 1 n t f) rows)
        (λ e. rw (unit-alike ∙ e, unit_or) (rw (e, unit_or)
        (ap (λ (v : ℕ). Unit v (forced_true k rows t f v)) (variable_alike e)
        ∙ ap (Unit (forced_variable n rows t f)) (true-alike (forced_variable n rows t f)))))
        (λ e. rw (unit-alike ∙ e, unit_or) (rw (e, unit_or)))

    choice-alike : all_rows (λ r. satisfied n r t f) rows ≡ false → any_row (unsatisfied_with 0 n t f) rows ≡ false → choice k rows t f ≡ choice n rows t f
    unfolding choice
    choice-alike e₁ e₂ =
        let v = choice_hit n rows t f e₁ e₂ in
        ap (λ (p : ℕ → Bool). lowest p k)
        (fun_ext (λ i. any-row_cong (λ r. not (satisfied k r t f) && free_in r t f i) (λ r. not (satisfied n r t f) && free_in r t f i) rows
        (λ r m. ap (λ (b : Bool). not b && free_in r t f i) (satisfied-alike r (m (low_row n) low)))))
        ∙ lowest_width (λ i. any_row (λ r. not (satisfied n r t f) && free_in r t f i) rows) n k (choice n rows t f) wide v.0 v.1

    -- rows without a bit at or above n call for the same rule at every width k, at least n, as at n
    pub rule_width : rule k rows t f ≡ rule n rows t f
    unfolding rule
    rule_width =
        on (all_rows (λ r. satisfied n r t f) rows)
        (λ e. rw (all_alike ∙ e, rule) (rw (e, rule)))
        (λ e₁. rw (all_alike ∙ e₁, rule) (rw (e₁, rule) (on (any_row (unsatisfied_with 0 n t f) rows)
        (λ e₂. rw (conflict_alike ∙ e₂) (rw e₂))
        (λ e₂. rw (conflict_alike ∙ e₂) (rw e₂ (forced-alike (Choice (choice k rows t f))
        ∙ ap (λ (v : ℕ). unit_or n t f rows (Choice v)) (choice-alike e₁ e₂)))))))
