-- Accepted tables have rows whose words are below 2 ^ n: acceptance says so of each word, and a row has two.
use mathlib.Core.Path.{◌≡◌, refl}
use mathlib.Core.Bool.{true}
use mathlib.Core.List.{List, ◌++◌}
use Prim.Native.Nat.{ℕ, zero, suc, ◌+◌, ◌*◌, ◌^◌, ◌<◌}
use native.Mathlib.Omega.{arith}
use lib.Dec.{ltb}
use lib.ListN.{get_or}
use borrow.Author.Tests.{lt-ltb, ltb-true}
use Rattle.std.specs.Prelude.{Ok}
use Rattle.refusals.specs.Checks.{outcome}
use Rattle.words.specs.declared.Row.{Row}
use Rattle.words.proofs.Truth.{and_l, and_r, and_i}
use Rattle.dimensions.specs.declared.Dimensions.{Dimensions}
use Rattle.tables.specs.Tables.{Tables}
use Rattle.tables.specs.Rows.{rows_from, rows_of}
use Rattle.tables.specs.Acceptance.{low_row, table_checks}
use Rattle.tables.proofs.Accepted.{accepted}
use Rattle.scan.specs.Rules.{all_rows}
use Rattle.scan.proofs.RowLaws.{all-rows_append}

-- of a row without a bit at or above n, the positive word is below 2 ^ n
pub low-positive : (n : ℕ) (r : Row) → low_row n r ≡ true → r.positive < 2 ^ n
low-positive n r e = ltb-true _ _ (and_l (ltb r.positive (2 ^ n)) _ e)

-- of a row without a bit at or above n, the negative word is below 2 ^ n
pub low-negative : (n : ℕ) (r : Row) → low_row n r ≡ true → r.negative < 2 ^ n
low-negative n r e = ltb-true _ _ (and_r (ltb r.positive (2 ^ n)) _ e)

-- k rows from row i on
low_rows : (n : ℕ) (words : List ℕ) (i k : ℕ) → ((j : ℕ) → j < 2 * (i + k) → get_or words j 0 < 2 ^ n) → all_rows (low_row n) (rows_from words i k) ≡ true
unfolding all_rows
low_rows n words i zero h = refl
low_rows n words i (suc k) h =
    and_i
    (and_i (lt-ltb _ (2 ^ n) (h (2 * i) (omega arith))) (lt-ltb _ (2 ^ n) (h (2 * i + 1) (omega arith))))
    (low_rows n words (suc i) k (λ j b. h j (omega arith)))

-- no row of accepted tables has a bit at or above n
pub accepted-low : (d : Dimensions) (tables : Tables) → outcome (table_checks d tables) ≡ Ok tt → all_rows (low_row d.n) (rows_of d tables) ≡ true
accepted-low d tables e =
    let a = accepted d tables e in
    all-rows_append (low_row d.n) (rows_from tables.left 0 d.left) (rows_from tables.right 0 d.right ++ rows_from tables.public 0 d.public)
    (low_rows d.n tables.left 0 d.left (λ j b. a.left-words j (omega arith)))
    (all-rows_append (low_row d.n) (rows_from tables.right 0 d.right) (rows_from tables.public 0 d.public)
    (low_rows d.n tables.right 0 d.right (λ j b. a.right_words j (omega arith)))
    (low_rows d.n tables.public 0 d.public (λ j b. a.public_words j (omega arith))))
