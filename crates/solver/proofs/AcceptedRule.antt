-- The rule that the scan finds in the fronts of accepted buffers is the rule of the tables: a front holds the table's rows, and accepted rows are judged alike
-- at 32 and at n variables.
use mathlib.Core.Path.{◌≡◌, ap, ap₂, ◌∙◌}
use mathlib.Core.List.{List, ◌++◌}
use Prim.Native.Nat.{ℕ, ◌*◌}
use lib.ListN.{take}
use Rattle.std.specs.Prelude.{Ok}
use Rattle.refusals.specs.Checks.{outcome}
use Rattle.words.specs.declared.Row.{Row}
use Rattle.dimensions.specs.declared.Dimensions.{Dimensions}
use Rattle.tables.specs.Tables.{Tables}
use Rattle.tables.specs.Rows.{rows_of}
use Rattle.tables.specs.Acceptance.{table_checks}
use Rattle.tables.proofs.Accepted.{accepted}
use Rattle.scan.specs.Rules.{rows_of_words, rule}
use Rattle.scan.proofs.Fronts.{rows_in_front}
use Rattle.truth.proofs.LowRows.{accepted-low}
use Rattle.solver.proofs.WidthLaws.{rule_width}

-- the rows of the fronts of accepted tables are the tables'
pub rows_of_fronts : (d : Dimensions) (tables : Tables) → outcome (table_checks d tables) ≡ Ok tt
    → let front : ℕ → List ℕ → List Row = λ rows words. rows_of_words (take (2 * rows) words) in
    front d.left tables.left ++ (front d.right tables.right ++ front d.public tables.public) ≡ rows_of d tables
rows_of_fronts d tables ok =
    let a = accepted d tables ok in
    ap₂ ◌++◌ (rows_in_front tables.left d.left a.left-length)
    (ap₂ ◌++◌ (rows_in_front tables.right d.right a.right_length) (rows_in_front tables.public d.public a.public_length))

pub rule_of_fronts : (d : Dimensions) (tables : Tables) → outcome (table_checks d tables) ≡ Ok tt → (t f : ℕ)
    → let front : ℕ → List ℕ → List Row = λ rows words. rows_of_words (take (2 * rows) words) in
    rule 32 (front d.left tables.left ++ (front d.right tables.right ++ front d.public tables.public)) t f ≡ rule d.n (rows_of d tables) t f
rule_of_fronts d tables ok t f =
    ap (λ (rows : List Row). rule 32 rows t f) (rows_of_fronts d tables ok)
    ∙ rule_width d.n 32 (accepted d tables ok).size.n-most t f (rows_of d tables) (accepted-low d tables ok)
