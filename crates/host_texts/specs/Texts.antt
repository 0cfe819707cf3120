-- What the call that reads three texts returns to a host and leaves in the buffers lent to it.
use Rattle.refusals.specs.Numbers.{Outcome}
use Rattle.std.specs.Prelude.{ℕ, ◌*◌, Bool, ◌||◌, cond, List, [], ◌∷◌, ltb, length, take, Err}
use Rattle.refusals.specs.Checks.{given}
use Rattle.refusals.specs.declared.Refusal.TheVariants.{RowBuffer}
use Rattle.dimacs.specs.Text.{TextTable, table_of}
use Rattle.dimacs.specs.ThreeTexts.{shared_n}
use Rattle.tables.specs.Tables.{Tables, all_tables}
use Rattle.lent.specs.Lent.{front}

-- what three texts are read as
pub record Texts : Type 0 where
  pub left : TextTable
  pub right : TextTable
  pub public : TextTable

-- these three
abbrev pub all_texts : TextTable → TextTable → TextTable → Texts
all_texts left right public = record { left = left; right = right; public = public }

-- a station's text has at least one row, the public one may have none
abbrev pub texts_of : List ℕ → List ℕ → List ℕ → Texts
texts_of left right public = all_texts (table_of 1 left) (table_of 1 right) (table_of 0 public)

-- with a number of words lent, too few for some table's rows
abbrev pub has_no_room : Texts → ℕ → ℕ → ℕ → Bool
has_no_room t left right public = ltb left (2 * t.left.rows) || ltb right (2 * t.right.rows) || ltb public (2 * t.public.rows)

-- 4, then 6
abbrev pub room_outcome : Texts → ℕ → ℕ → ℕ → Outcome
room_outcome t left right public = cond (has_no_room t left right public) (Err RowBuffer) (shared_n t.left t.right t.public)

-- what refuses the left text, then the right one, then the public one, then 4 and 6
abbrev pub lent_outcome : Texts → ℕ → ℕ → ℕ → Outcome
lent_outcome t left right public =
    given t.left.outcome (given t.right.outcome
    (given t.public.outcome (room_outcome t left right public) Err) Err) Err

-- the same with the lent tables
abbrev pub read_outcome : Texts → Tables → Outcome
read_outcome t lent = lent_outcome t (length lent.left) (length lent.right) (length lent.public)

-- a lent table after reading: the rows' words over its front; refused, as it was
abbrev pub rows_given : Outcome → TextTable → List ℕ → List ℕ
rows_given o t lent = given o (front (take (2 * t.rows) t.words) lent) (λ q. lent)

-- the lent tables after reading
abbrev pub tables_read : Texts → Tables → Tables
tables_read t lent =
    let o = read_outcome t lent in
    all_tables (rows_given o t.left lent.left) (rows_given o t.right lent.right) (rows_given o t.public lent.public)

-- n and the three row counts
abbrev pub text_sizes : Texts → List ℕ
text_sizes t = t.left.n ∷ (t.left.rows ∷ (t.right.rows ∷ (t.public.rows ∷ [])))

-- the lent sizes after reading
abbrev pub sizes_read : Texts → Tables → List ℕ → List ℕ
sizes_read t lent sizes = given (read_outcome t lent) (text_sizes t) (λ q. sizes)
