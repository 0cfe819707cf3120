-- What the pair program prints for two stations' texts, that of the public rest rules and a line of standard input: document 01, "Turned
-- back" and "Programs"; document 02, "Public rest rules".
use Rattle.refusals.specs.declared.Refusal.{Refusal}
use Rattle.solver.specs.declared.Answer.{Answer}
use Rattle.std.specs.Prelude.{ℕ, List, Result, Ok, Err}
use Rattle.refusals.specs.Checks.{given}
use Rattle.dimensions.specs.declared.Dimensions.{Dimensions}
use Rattle.dimensions.specs.Sizes.{dimensions}
use Rattle.tables.specs.Tables.{Tables, all_tables}
use Rattle.dimacs.specs.ThreeTexts.{ThreeTables, text_tables}
use Rattle.solver.specs.Entries.{solved}
use Rattle.lines.specs.Numbers.{budget_of}
use Rattle.answers.specs.Printed.{solved_text}

-- n and the row counts of tables that were read
abbrev pub dimensions_of : ThreeTables → Dimensions
dimensions_of t = dimensions t.n t.left_rows t.right_rows t.public_rows

-- their words
abbrev pub tables_in : ThreeTables → Tables
tables_in t = all_tables t.left t.right t.public

-- the budgeted run over the tables, or 8
abbrev pub answered : ThreeTables → Result ℕ Refusal → Result Answer Refusal
answered t (Ok steps) = solved (dimensions_of t) (tables_in t) steps
answered t (Err r) = Err r

-- the left text's refusal, the right's, the public one's, then 6, and only then 8
abbrev pub replied : ThreeTables → List ℕ → Result Answer Refusal
replied t line = given t.outcome (answered t (budget_of line)) Err

-- what is printed for the three texts and the line
unfoldable pub reply_text : List ℕ → List ℕ → List ℕ → List ℕ → List ℕ
reply_text left right public line = let t = text_tables left right public in solved_text t.n (replied t line)
