-- What giant steps of a run in lent words give: one, with a lent index and a lent number of unsatisfied rows, and as many as close it.
use Rattle.std.specs.Prelude.{ℕ, List, get_or}
use Rattle.dimensions.specs.declared.Dimensions.{Dimensions}
use Rattle.tables.specs.Tables.{Tables}
use Rattle.indexed.specs.Entries.{SteppedIndexed, stepped_indexed}
use Rattle.indexed.specs.Continuing.{Continued, continued}
use Rattle.stored.specs.Words.{run_in}

-- index, run and number in lent words; the number is the one word of its array
abbrev pub indexed_step_in : Dimensions → Tables → List ℕ → List ℕ → List ℕ → SteppedIndexed
indexed_step_in d tables index run number = stepped_indexed d tables index (run_in run) (get_or number 0 0)

-- the run in lent words continued, at most a given number of times
abbrev pub continue_in : Dimensions → Tables → ℕ → List ℕ → Continued
continue_in d tables times run = continued d tables times (run_in run)
