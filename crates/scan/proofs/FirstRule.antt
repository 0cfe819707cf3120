-- The rule that applies has the number of the first that applies: by the definition's tests in order.
use mathlib.Core.Path.{◌≡◌, ap, ◌∙◌}
use mathlib.Core.Bool.{cond}
use mathlib.Core.List.{List}
use Prim.Native.Nat.{ℕ}
use lib.ListN.{get_or}
use Rattle.words.specs.declared.Row.{Row}
use Rattle.words.proofs.Truth.{on}
use Rattle.tables.specs.Rows.{satisfied}
use Rattle.scan.specs.declared.Rule.{Rule}
use Rattle.scan.specs.declared.Rule.TheVariants.{Choice}
use Rattle.scan.specs.Rules.{unsatisfied_with, all_rows, any_row, unit_or, choice, rule, rule_said, first_rule}

module _ (n t f : ℕ) where
  unit-number : (rows : List Row) (v : ℕ) → get_or (rule_said (unit_or n t f rows (Choice v))) 0 0 ≡ cond (any_row (unsatisfied_with 1 n t f) rows) 3 4
  unfolding unit_or
  unit-number rows v =
      on (any_row (unsatisfied_with 1 n t f) rows)
      (λ e. rw e (rw (e, unit_or)))
      (λ e. rw e (rw (e, unit_or)))

  rule-number : (rows : List Row) → get_or (rule_said (rule n rows t f)) 0 0 ≡ first_rule n rows t f
  unfolding rule
  rule-number rows =
      on (all_rows (λ r. satisfied n r t f) rows)
      (λ a. rw a (rw (a, rule)))
      (λ a. rw a (rw (a, rule) (on (any_row (unsatisfied_with 0 n t f) rows)
      (λ e. rw e)
      (λ e. rw e (unit-number rows (choice n rows t f))))))

  -- what is given says its number
  pub with_number : (rows : List Row) (r : Rule) → r ≡ rule n rows t f
      → (r ≡ rule n rows t f) × (get_or (rule_said r) 0 0 ≡ first_rule n rows t f)
  with_number rows r e = (e, ap (λ (x : Rule). get_or (rule_said x) 0 0) e ∙ rule-number rows)
