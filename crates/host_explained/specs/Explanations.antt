-- What one giant step of a run in lent words gives and leaves there, with what it tells.
use Rattle.refusals.specs.Numbers.{Outcome}
use Rattle.std.specs.Prelude.{ℕ, List}
use Rattle.refusals.specs.Checks.{given}
use Rattle.dimensions.specs.declared.Dimensions.{Dimensions}
use Rattle.tables.specs.Tables.{Tables}
use Rattle.explained.specs.declared.Told.{Told}
use Rattle.explained.specs.Explanation.{Explained, explained, told_numbers}
use Rattle.stored.specs.Words.{run_in}
use Rattle.lent.specs.Lent.{stored_if}

-- one giant step of the run in lent words
abbrev pub explain_in : Dimensions → Tables → List ℕ → Explained
explain_in d tables words = explained d tables (run_in words)

-- the run's lent words after it
abbrev pub run_after : Explained → List ℕ → List ℕ
run_after e words = stored_if e.outcome e.run words

-- rule, row, variable, value where the call is taken; else what was there
abbrev pub numbers_if : Outcome → Told → List ℕ → List ℕ
numbers_if o told lent = given o (told_numbers told) (λ r. lent)

-- the lent explanation after it
abbrev pub numbers_after : Explained → List ℕ → List ℕ
numbers_after e lent = numbers_if e.outcome e.told lent
