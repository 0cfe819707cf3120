-- How many literals of each row are free, a byte a row: document 02, "Literals counted in a byte", refusals 1, 2, 4, 3, then 10, 12, 13.
-- Ask: Are literals of satisfied rows and of padding counted too? Do later bytes stay?
use Rattle.std.specs.Prelude.{ℕ, List, ◌∷◌, ◌++◌, map, ltb, length}
use Rattle.std.proofs.lemmas.List.Edits.{sets}
use Rattle.refusals.specs.Checks.{Check, check, outcome, given}
use Rattle.refusals.specs.declared.Refusal.TheVariants.{Wires}
use Rattle.words.specs.declared.Row.{Row}
use Rattle.dimensions.specs.declared.Dimensions.{Dimensions}
use Rattle.dimensions.specs.Sizes.{row_count}
use Rattle.tables.specs.Tables.{Tables}
use Rattle.tables.specs.Rows.{rows_of, free_literals}
use Rattle.tables.specs.Acceptance.{table_checks}
use Rattle.state.specs.declared.Run.{Run}
use Rattle.state.specs.WellFormed.{state_checks}

-- for each row, padding and satisfied ones too, the number of its literals whose variable is in neither T nor F
abbrev pub free_counts_of : ℕ → List Row → ℕ → ℕ → List ℕ
free_counts_of n rows t f = map (λ r. free_literals n r t f) rows

-- 1, 2, 4, 3, then 10 where the lent bytes are fewer than the rows, then 12, 13
abbrev pub count_checks : Dimensions → Tables → Run → ℕ → List Check
count_checks d tables run room = table_checks d tables ++ (check (ltb room (row_count d)) Wires ∷ state_checks d run)

-- the lent bytes afterwards: a count for each row, left, right and public ones, then what was there; refused, as they were
unfoldable pub counts_after : Dimensions → Tables → Run → List ℕ → List ℕ
counts_after d tables run counts =
    given (outcome (count_checks d tables run (length counts)))
    (sets counts 0 (free_counts_of d.n (rows_of d tables) run.t run.f))
    (λ r. counts)
