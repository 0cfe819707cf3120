-- Rows whose words are below 2 ^ n are true by a variable below n, if at all: no other occurs in them.
use mathlib.Core.Path.{◌≡◌}
use mathlib.Core.Bool.{Bool, true, not, ◌&&◌, ◌||◌}
use mathlib.Core.List.{List}
use Prim.Native.Nat.{ℕ, ◌≤◌}
use Rattle.words.specs.declared.Row.{Row}
use Rattle.words.specs.Sets.{bit, any}
use Rattle.words.proofs.Upto.{any_width}
use Rattle.words.proofs.Operations.{bit_high}
use Rattle.scan.specs.Rules.{all_rows}
use Rattle.truth.specs.Truth.{row_true, all_true}
use Rattle.scan.proofs.RowLaws.{In}
use Rattle.tables.specs.Acceptance.{low_row}
use Rattle.truth.proofs.LowRows.{low-positive, low-negative}

-- the assignment makes a literal of this variable true
abbrev pub literal : (ℕ → Bool) → Row → ℕ → Bool
literal a r i = (bit r.positive i && a i) || (bit r.negative i && not (a i))

module _ (n : ℕ) (few : n ≤ 32) where
  -- a row without a bit at or above n is true exactly if a literal of a variable below n is
  pub row-true : (a : ℕ → Bool) (r : Row) → low_row n r ≡ true → row_true a r ≡ any (λ i. literal a r i) n
  unfolding row_true
  row-true a r low =
      any_width (λ i. literal a r i) n 32 few
      (λ i b. rw (
        bit_high n r.positive i (low-positive n r low) b,
        bit_high n r.negative i (low-negative n r low) b,
      ))

  -- each of these rows is true
  pub all-true_e : (a : ℕ → Bool) (rows : List Row) → all_rows (low_row n) rows ≡ true → all_true a rows ≡ true → (r : Row) → In r rows
      → any (λ i. literal a r i) n ≡ true
  unfolding all_true
  all-true_e a rows low h r m = rw (row-true a r (m (low_row n) low)) at (m (row_true a) h)
