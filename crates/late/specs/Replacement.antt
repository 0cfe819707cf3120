-- A late condition: document 02, Req 06. While its run is open, a station puts a row in the place of one of its own padding rows.
-- Ask: Whose row is it, is it padding now, is the run open, and which two words change? Are 15 and 16 after 13 and before the new row's 3?
use Rattle.std.specs.Prelude.{ℕ, ◌+◌, ◌-◌, ◌*◌, Bool, true, false, not, ◌&&◌, cond, List, [], ◌∷◌, ◌++◌, eqb, ltb, leb, get_or, set}
use Rattle.refusals.specs.Checks.{Check, check, outcome, given}
use Rattle.refusals.specs.declared.Refusal.TheVariants.{RowBit, NotPadding, Closed}
use Rattle.words.specs.declared.Row.{Row}
use Rattle.dimensions.specs.declared.Dimensions.{Dimensions}
use Rattle.tables.specs.Tables.{Tables}
use Rattle.tables.specs.Rows.{rows_of, empty, padding}
use Rattle.tables.specs.Acceptance.{low_row, table_checks}
use Rattle.state.specs.declared.Run.{Run}
use Rattle.state.specs.State.{if_open}
use Rattle.state.specs.WellFormed.{state_checks}
use Rattle.late.specs.declared.Condition.{Condition}

-- ---- whose row, and whether it may be replaced

-- rows are numbered from 1 over all tables, the left station's first: station 0 has the left ones, station 1 the right ones
abbrev pub owns : Dimensions → ℕ → ℕ → Bool
owns d station number =
    cond (eqb station 0) (ltb 0 number && leb number d.left)
    (eqb station 1 && (ltb d.left number && leb number (d.left + d.right)))

-- the row of a number, as it is
abbrev pub padding_at : Dimensions → Tables → ℕ → Bool
padding_at d tables number = padding d.n (get_or (rows_of d tables) (number - 1) empty)

-- 15: no padding row of that station; 16: the run is closed; 3: the new row has a bit at or above n
abbrev pub condition_checks : Dimensions → Tables → Run → Condition → List Check
condition_checks d tables run c =
    check (not (owns d c.station c.replaced && padding_at d tables c.replaced)) NotPadding
    ∷ check (if_open run.standing false true) Closed
    ∷ check (not (low_row d.n c.row)) RowBit
    ∷ []

-- 1, 2, 4, 3, 12, 13, 15, 16, and 3 for the new row
abbrev pub late_checks : Dimensions → Tables → Run → Condition → List Check
late_checks d tables run c = table_checks d tables ++ (state_checks d run ++ condition_checks d tables run c)

-- ---- the tables afterwards

-- the words with another row i, from 0
abbrev pub put_row : List ℕ → ℕ → Row → List ℕ
put_row words i r = set (set words (2 * i) r.positive) (2 * i + 1) r.negative

-- the tables with the row in its place: a number says which table it is in
unfoldable pub replaced_in : Dimensions → Tables → Condition → Tables
replaced_in d tables c =
    cond (leb c.replaced d.left)
    (record { left = put_row tables.left (c.replaced - 1) c.row; right = tables.right; public = tables.public })
    (record { left = tables.left; right = put_row tables.right (c.replaced - 1 - d.left) c.row; public = tables.public })

-- what is refused leaves them as they were
unfoldable pub tables_after : Dimensions → Tables → Run → Condition → Tables
unfolding replaced_in
tables_after d tables run c = given (outcome (late_checks d tables run c)) (replaced_in d tables c) (λ r. tables)
