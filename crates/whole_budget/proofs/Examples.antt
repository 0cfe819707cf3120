-- The order of the refusals, and what is cleared, computed: n = 1 and a row each, whose ceiling is 512 gates and whose inputs are 13.
use mathlib.Core.Path.{◌≡◌, refl}
use mathlib.Core.List.{List, [], ◌∷◌}
use Prim.Native.Nat.{ℕ}
use Rattle.refusals.specs.Checks.{outcome}
use Rattle.refusals.specs.Numbers.{code_of}
use Rattle.dimensions.specs.Sizes.{dimensions}
use Rattle.tables.specs.Tables.{all_tables}
use Rattle.tables.specs.Acceptance.{all_below}
use Rattle.whole_budget.specs.WholeBudget.{whole_checks, cleared}

-- the code of a budget, so many gate words, bytes and wires, and the left row's words
code : ℕ → ℕ → ℕ → ℕ → List ℕ → ℕ
unfolding all_below
code budget gates bytes wires left = code_of (outcome (whole_checks (dimensions 1 1 1 0) (all_tables left (1 ∷ 0 ∷ []) []) budget gates bytes wires))

-- 3 before 7
row_first : code 65536 0 0 0 (2 ∷ 0 ∷ []) ≡ 3
unfolding code
row_first = refl

-- 7 before 23
then-words : code 65536 1535 0 0 (1 ∷ 0 ∷ []) ≡ 7
unfolding code
then-words = refl

-- 23 before 10
then_budget : code 65536 1536 0 0 (1 ∷ 0 ∷ []) ≡ 23
unfolding code
then_budget = refl

-- 65,535 is taken
then-room : code 65535 1536 12 100000 (1 ∷ 0 ∷ []) ≡ 10
unfolding code
then-room = refl

-- all of it is judged for a budget of 0 too
no_budget : code 0 1536 12 100000 (1 ∷ 0 ∷ []) ≡ 10
unfolding code
no_budget = refl

-- zeros in front, then what was there
zeros : cleared 2 (7 ∷ 8 ∷ 9 ∷ []) ≡ 0 ∷ 0 ∷ 9 ∷ []
zeros = refl
