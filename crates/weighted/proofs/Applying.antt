-- The weighted rule is one that applies, so that all laws of steps by a ruling hold of it: rules 1 to 3 are the giant step's, and the heaviest variable is free
-- in an unsatisfied row. The rule of the fronts of accepted buffers is the tables' rule.
use mathlib.Core.Path.{◌≡◌, ap, ap₂, ◌∙◌}
use mathlib.Core.Bool.{Bool, true, not, ◌&&◌}
use mathlib.Core.List.{List, ◌++◌}
use Prim.Native.Nat.{ℕ, ◌*◌, ◌≤◌}
use lib.ListN.{take}
use borrow.Author.Tests.{not-true}
use Rattle.std.specs.Prelude.{Ok}
use Rattle.refusals.specs.Checks.{outcome}
use Rattle.words.specs.declared.Row.{Row}
use Rattle.words.proofs.Truth.{and_l, and_r, and_i}
use Rattle.dimensions.specs.declared.Dimensions.{Dimensions}
use Rattle.tables.specs.Tables.{Tables}
use Rattle.tables.specs.Rows.{satisfied, free_in, rows_of}
use Rattle.tables.specs.Acceptance.{low_row, table_checks}
use Rattle.tables.proofs.Accepted.{accepted}
use Rattle.scan.specs.declared.Rule.{Rule}
use Rattle.scan.specs.declared.Rule.TheVariants.{AllSatisfied, Conflict, Unit, Choice}
use Rattle.scan.specs.Rules.{rows_of_words, rule}
use Rattle.scan.proofs.RowLaws.{In, any-row_e, any-row-i}
use Rattle.truth.proofs.RuleLaws.{Ruled, Applies, ruled}
use Rattle.truth.proofs.LowRows.{low-positive, low-negative, accepted-low}
use Rattle.solver.proofs.WidthLaws.{rule_width}
use Rattle.solver.proofs.AcceptedRule.{rows_of_fronts}
use Rattle.weighted.specs.Weights.{weight, heaviest, choosing, weighted_rule}
use Rattle.weighted.proofs.Choosing.{heaviest_hit, heaviest-rows}

-- ---- the rule applies

module _ (n : ℕ) (rows : List Row) (t f : ℕ) where
  choosing_ruled : (k : Rule) → Ruled n rows t f k → Ruled n rows t f (choosing (heaviest (weight n rows t f) n) k)
  choosing_ruled AllSatisfied w = w
  choosing_ruled Conflict w = w
  choosing_ruled (Unit v positive) w = w
  choosing_ruled (Choice v) w =
      let at : ℕ → Row → Bool = λ i r. not (satisfied n r t f) && free_in r t f i in
      let g = heaviest (weight n rows t f) n in
      let h = heaviest_hit n t f v rows w.low (any-row-i (at v) rows w.row w.of_rows (and_i (ap not w.unsatisfied) w.free_there)) in
      let y = any-row_e (at g) rows h.1 in
      record {
        row = y.0;
        of_rows = y.1;
        unsatisfied = not-true _ (and_l (not (satisfied n y.0 t f)) _ y.2);
        low = h.0;
        free_there = and_r (not (satisfied n y.0 t f)) _ y.2;
      }

-- whatever the rows, T and F: all rows satisfied, a row in conflict, a row that forces its literal, or an unsatisfied row where the variable is free
pub weighted_applies : Applies weighted_rule
unfolding weighted_rule
weighted_applies n rows t f = choosing_ruled n rows t f (rule n rows t f) (ruled n rows t f)

-- ---- accepted tables

-- rows without a bit at or above n call for the same rule at every width k, at least n, as at n
weighted_width : (n k : ℕ) → n ≤ k → (t f : ℕ) (rows : List Row) → ((r : Row) → In r rows → low_row n r ≡ true)
    → rule k rows t f ≡ rule n rows t f → weighted_rule k rows t f ≡ weighted_rule n rows t f
unfolding weighted_rule
weighted_width n k wide t f rows low e = ap₂ choosing (heaviest-rows n k t f wide rows (λ r m. (low-positive n r (low r m), low-negative n r (low r m)))) e

-- the rule of the fronts of accepted tables is the tables' rule
pub weighted_of_fronts : (d : Dimensions) (tables : Tables) → outcome (table_checks d tables) ≡ Ok tt → (t f : ℕ)
    → let front : ℕ → List ℕ → List Row = λ rows words. rows_of_words (take (2 * rows) words) in
    weighted_rule 32 (front d.left tables.left ++ (front d.right tables.right ++ front d.public tables.public)) t f
    ≡ weighted_rule d.n (rows_of d tables) t f
weighted_of_fronts d tables ok t f =
    let wide = (accepted d tables ok).size.n-most in
    let low = accepted-low d tables ok in
    ap (λ (rows : List Row). weighted_rule 32 rows t f) (rows_of_fronts d tables ok)
    ∙ weighted_width d.n 32 wide t f (rows_of d tables) (λ r m. m (low_row d.n) low) (rule_width d.n 32 wide t f (rows_of d tables) low)
