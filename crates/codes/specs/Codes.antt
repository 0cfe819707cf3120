-- A host's numbers as bytes, the limits on n, and a verdict from its numbers.
use Rattle.std.specs.Prelude.{ℕ, ◌%◌, ◌^◌, min, cond, List, [], ◌∷◌, eqb}
use Rattle.refusals.specs.Checks.{Check, check}
use Rattle.refusals.specs.declared.Refusal.TheVariants.{Variables}
use Rattle.dimensions.specs.declared.Dimensions.{Dimensions}
use Rattle.dimensions.specs.Sizes.{most_variables, outside, dimensions}
use Rattle.verdicts.specs.declared.Verdict.{Verdict}
use Rattle.verdicts.specs.declared.Verdict.TheVariants.{Satisfiable, Unsatisfiable, Unknown}

-- a host's number as a byte: what no byte holds counts as 255, which no limit allows
abbrev pub as_byte : ℕ → ℕ
as_byte x = min x 255

-- four numbers of a host as dimensions, each as a byte
abbrev pub host_dimensions : ℕ → ℕ → ℕ → ℕ → Dimensions
host_dimensions n left right public = dimensions (as_byte n) (as_byte left) (as_byte right) (as_byte public)

-- 1: n outside 1 to 32
abbrev pub variable_checks : ℕ → List Check
variable_checks n = check (outside most_variables n) Variables ∷ []

-- the verdict of a number: any other than 1 and 2 is unknown; a model has 32 variables
abbrev pub verdict_from : ℕ → ℕ → Verdict
verdict_from k model = cond (eqb k 1) (Satisfiable (model % 2 ^ 32)) (cond (eqb k 2) Unsatisfiable Unknown)
