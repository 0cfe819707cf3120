-- What a text means: a table, or refusal 1, 2 or 5 (document 01, "DIMACS" and "Turned back"; document 02, "Remarks between clauses").
-- `least` is the least row count that its header may have: 1 for a station, 0 for the public rest rules (document 02, "Public rest rules").
-- Ask: Which refusal comes first?
use Rattle.std.specs.Prelude.{ℕ, ◌-◌, ◌*◌, ◌&&◌, cond, List, ◌++◌, eqb, ltb, length, replicate, Result, Ok, Err}
use Rattle.lexer.specs.Remarks.{without_remarks}
use Rattle.lexer.specs.Pieces.{tokens_from}
use Rattle.refusals.specs.Numbers.{Outcome, number_of}
use Rattle.refusals.specs.Checks.{given}
use Rattle.refusals.specs.declared.Refusal.{Refusal}
use Rattle.refusals.specs.declared.Refusal.TheVariants.{Text}
use Rattle.words.specs.declared.Row.{Row}
use Rattle.header.specs.Header.{header_of}
use Rattle.dimacs.specs.declared.Table.{Table}
use Rattle.clauses.specs.Rows.{words_of_rows}
use Rattle.clauses.specs.Clauses.{Reading, clauses, clause_rows, complete}

-- what a text says: whether it is taken, n, the row count and the row words, positive before negative
pub record TextTable : Type 0 where
  pub outcome : Outcome
  pub n : ℕ
  pub rows : ℕ
  pub words : List ℕ

-- a refusal has no n and no rows
abbrev pub refused : Refusal → TextTable
refused r = record { outcome = Err r; n = 0; rows = 0; words = replicate 256 0 }

-- a table of rows; the words past them are zero
abbrev pub accepted_table : ℕ → List Row → TextTable
accepted_table n rs = record { outcome = Ok tt; n = n; rows = length rs; words = words_of_rows rs ++ replicate (256 - 2 * length rs) 0 }

-- exactly m clauses that can all be read
abbrev pub body_of : ℕ → ℕ → Reading → TextTable
body_of n m reading = cond (complete reading && eqb (length (clause_rows reading)) m) (accepted_table n (clause_rows reading))
    (refused Text)

-- what a header leads to: its refusal, or the clauses after its line
abbrev pub from_header : List ℕ → ℕ → Result (ℕ × ℕ) Refusal → TextTable
from_header text end (Err r) = refused r
from_header text end (Ok (n, m)) = body_of n m (clauses n (tokens_from text end))

-- the table of a text whose remarks are all before the header
abbrev pub plain_table : ℕ → List ℕ → TextTable
plain_table least text = from_header text (header_of least text).end (header_of least text).sizes

-- an overlong text is 5 before all else; any other has the table that it has without its remark lines
unfoldable pub table_of : ℕ → List ℕ → TextTable
table_of least text = cond (ltb 65536 (length text)) (refused Text) (plain_table least (without_remarks text))

-- ---- as it is read

-- the table, or the refusal
abbrev pub table_read : TextTable → Result Table Refusal
table_read t = given t.outcome (Ok (record { n = t.n; rows = t.rows; words = t.words })) Err

-- what reading a text returns: 0, or 1, 2 or 5 of "Turned back because of the input"
abbrev pub table_code : Result Table Refusal → ℕ
table_code (Ok t) = 0
table_code (Err r) = number_of r

-- what a text says whose table is this
abbrev pub as_read : Table → TextTable
as_read t = record { outcome = Ok tt; n = t.n; rows = t.rows; words = t.words }
