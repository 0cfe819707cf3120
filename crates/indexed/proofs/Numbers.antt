-- Rows whose words are below 2 ^ n are counted alike at 32 and at n variables. Row by row.
use mathlib.Core.Path.{◌≡◌, refl, ap, ap₂}
use mathlib.Core.Bool.{Bool, true, not}
use mathlib.Core.List.{List, [], ◌∷◌}
use Prim.Native.Nat.{ℕ, ◌+◌, ◌≤◌}
use Rattle.words.specs.declared.Row.{Row}
use Rattle.words.specs.Booleans.{digit}
use Rattle.words.proofs.Truth.{and_l, and_r}
use Rattle.tables.proofs.Rows.{satisfied_width}
use Rattle.scan.specs.Rules.{all_rows}
use Rattle.tables.specs.Acceptance.{low_row}
use Rattle.truth.proofs.LowRows.{low-positive, low-negative}
use Rattle.tally.specs.Tallies.{count_rows, unmet, unsatisfied_rows, tally_of}

module _ (n : ℕ) (narrow : n ≤ 32) (t f : ℕ) where
  count-alike : (rows : List Row) → all_rows (low_row n) rows ≡ true → count_rows (unmet 32 t f) rows ≡ count_rows (unmet n t f) rows
  unfolding count_rows all_rows
  count-alike [] low = refl
  count-alike (r ∷ rs) low =
      let own = and_l (low_row n r) _ low in
      ap₂ ◌+◌ (ap (λ (b : Bool). digit (not b)) (satisfied_width n 32 r t f narrow (low-positive n r own) (low-negative n r own)))
      (count-alike rs (and_r (low_row n r) _ low))

  -- the number of an exact tally
  pub tally_number : (rows : List Row) → all_rows (low_row n) rows ≡ true → (tally_of rows t f).number ≡ unsatisfied_rows n rows t f
  unfolding tally_of unsatisfied_rows
  tally_number rows low = count-alike rows low
