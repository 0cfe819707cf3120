-- Tables that change while a run is open: late conditions in order, each after a number of steps. Document 02, Req 06.
-- Ask: Which tables does a step read?
use Rattle.std.specs.Prelude.{ℕ, Bool, ◌&&◌, cond, List, [], ◌∷◌, leb}
use Rattle.words.specs.declared.Row.{Row}
use Rattle.dimensions.specs.declared.Dimensions.{Dimensions}
use Rattle.tables.specs.Tables.{Tables}
use Rattle.tables.specs.Rows.{rows_of}
use Rattle.tables.specs.Acceptance.{low_row}
use Rattle.late.specs.declared.Condition.{Condition}
use Rattle.late.specs.Replacement.{owns, padding_at, replaced_in}

-- a late condition, and how many steps come before it
pub record Dated : Type 0 where
  pub steps : ℕ
  pub condition : Condition

-- a padding row of that station, and no bit of the new row at or above n: neither 15 nor 3
abbrev pub legal : Dimensions → Tables → Condition → Bool
legal d tables c = owns d c.station c.replaced && padding_at d tables c.replaced && low_row d.n c.row

-- the tables with the condition; what is not legal leaves them as they were
unfoldable pub tables_with : Dimensions → Tables → Condition → Tables
unfolding replaced_in
tables_with d tables c = cond (legal d tables c) (replaced_in d tables c) tables

-- it comes after no more than k steps
abbrev pub due : ℕ → Dated → Bool
due k c = leb c.steps k

-- the tables as they are when step k + 1 begins: the conditions in order, up to the first that comes after more than k steps
unfoldable pub tables_at : Dimensions → Tables → List Dated → ℕ → Tables
unfolding tables_with
tables_at d tables [] k = tables
tables_at d tables (c ∷ more) k = cond (due k c) (tables_at d (tables_with d tables c.condition) more k) tables

-- their rows
abbrev pub rows_at : Dimensions → Tables → List Dated → ℕ → List Row
rows_at d tables conditions = λ k. rows_of d (tables_at d tables conditions k)
