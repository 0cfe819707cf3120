-- Passes over rows, as code makes them: each row is read with the literals that those before it forced.
use Rattle.std.specs.Prelude.{ℕ, ◌<◌, ◌≡◌, true, false, ◌&&◌, cond, List, [], ◌∷◌}
use Rattle.words.specs.declared.Row.{Row}
use Rattle.words.specs.Sets.{bit, lowest}
use Rattle.tables.specs.Rows.{free_in}
use Rattle.scan.specs.Rules.{unsatisfied_with}
use Rattle.propagation.specs.Propagation.{true_with, false_with}
use Rattle.propagation.specs.declared.Propagated.{Propagated}

-- no variable is in T and in F
abbrev pub Apart : ℕ → ℕ → Type 0
Apart t f = (i : ℕ) → i < 32 → bit t i && bit f i ≡ false

-- after a row: a conflict, its one free literal made true, or T and F as they were
abbrev pub after_row : Row → ℕ → ℕ → Propagated
after_row r t f =
    let v = lowest (λ i. free_in r t f i) 32 in
    let b = bit r.positive v in
    cond (unsatisfied_with 0 32 t f r) (record { conflict = true; t = t; f = f })
    (cond (unsatisfied_with 1 32 t f r) (record { conflict = false; t = true_with v b t; f = false_with v b f })
    (record { conflict = false; t = t; f = f }))

-- after rows, up to the first in conflict
unfoldable pub after_rows : List Row → ℕ → ℕ → Propagated
after_rows [] t f = record { conflict = false; t = t; f = f }
after_rows (r ∷ rs) t f = let x = after_row r t f in cond x.conflict x (after_rows rs x.t x.f)
