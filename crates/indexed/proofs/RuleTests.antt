-- Where a rule sets a variable, no row is in conflict: rules 1 and 2 come first.
use mathlib.Core.Path.{◌≡◌}
use mathlib.Core.Bool.{Bool, true, false}
use mathlib.Core.List.{List}
use Prim.Native.Nat.{ℕ}
use native.Mathlib.Omega.{arith}
use Rattle.words.specs.declared.Row.{Row}
use Rattle.words.proofs.Truth.{on}
use Rattle.tables.specs.Rows.{satisfied}
use Rattle.scan.specs.declared.Rule.TheVariants.{AllSatisfied, Conflict, Unit, Choice}
use Rattle.scan.specs.Rules.{all_rows, any_row, unsatisfied_with, rule}

module _ (n : ℕ) (rows : List Row) (t f : ℕ) where
  all-satisfied : all_rows (λ r. satisfied n r t f) rows ≡ true → rule n rows t f ≡ AllSatisfied
  unfolding rule
  all-satisfied e = rw (e, rule)

  in_conflict : all_rows (λ r. satisfied n r t f) rows ≡ false → any_row (unsatisfied_with 0 n t f) rows ≡ true → rule n rows t f ≡ Conflict
  unfolding rule
  in_conflict e c = rw (e, rule) (rw c)

  calm : (rule n rows t f ≡ AllSatisfied → ⊥) → (rule n rows t f ≡ Conflict → ⊥) → any_row (unsatisfied_with 0 n t f) rows ≡ false
  calm h k =
      on (all_rows (λ r. satisfied n r t f) rows)
      (λ e. absurd (h (all-satisfied e)))
      (λ e. on (any_row (unsatisfied_with 0 n t f) rows) (λ c. absurd (k (in_conflict e c))) (λ c. c))

  pub unit_calm : (v : ℕ) (positive : Bool) → rule n rows t f ≡ Unit v positive → any_row (unsatisfied_with 0 n t f) rows ≡ false
  unit_calm v positive e =
      calm (λ h. let z : ◌≡◌ {A = ℕ} 0 1 = cc in omega arith) (λ h. let z : ◌≡◌ {A = ℕ} 0 1 = cc in omega arith)

  -- where rule 4 applies no row is in conflict
  pub choice_calm : (v : ℕ) → rule n rows t f ≡ Choice v → any_row (unsatisfied_with 0 n t f) rows ≡ false
  choice_calm v e =
      calm (λ h. let z : ◌≡◌ {A = ℕ} 0 1 = cc in omega arith) (λ h. let z : ◌≡◌ {A = ℕ} 0 1 = cc in omega arith)
