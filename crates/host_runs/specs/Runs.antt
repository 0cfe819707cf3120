-- What one giant step of a run in lent words gives and leaves there.
use Rattle.std.specs.Prelude.{ℕ, List}
use Rattle.dimensions.specs.declared.Dimensions.{Dimensions}
use Rattle.tables.specs.Tables.{Tables}
use Rattle.solver.specs.Entries.{Stepped, stepped}
use Rattle.stored.specs.Words.{run_in}
use Rattle.lent.specs.Lent.{stored_if}

-- one giant step of the run in lent words
abbrev pub step_in : Dimensions → Tables → List ℕ → Stepped
step_in d tables words = stepped d tables (run_in words)

-- the lent words after it
abbrev pub step_stored : Stepped → List ℕ → List ℕ
step_stored s words = stored_if s.outcome s.run words
