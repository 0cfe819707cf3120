-- The place of a clause among rows, and rows without the one at a place.
use Rattle.std.specs.Prelude.{ℕ, zero, suc, cond, List, [], ◌∷◌}
use Rattle.words.specs.declared.Row.{Row}
use Rattle.drat.specs.Proofs.{is_same_row}

-- how many rows come before the first of the clause's literals; their number if there is none
unfoldable pub place : Row → List Row → ℕ
place c [] = 0
place c (r ∷ rs) = cond (is_same_row c r) 0 (suc (place c rs))

-- the rows without the one at a place
unfoldable pub without_at : ℕ → List Row → List Row
without_at i [] = []
without_at zero (r ∷ rs) = rs
without_at (suc i) (r ∷ rs) = r ∷ without_at i rs
