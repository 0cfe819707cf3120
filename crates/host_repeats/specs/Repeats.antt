-- What the call that repeats the circuit leaves in the buffers that a host lends.
use Rattle.std.specs.Prelude.{ℕ, List, [], ◌∷◌}
use Rattle.words.specs.Booleans.{digit}
use Rattle.refusals.specs.Checks.{given}
use Rattle.dimensions.specs.declared.Dimensions.{Dimensions}
use Rattle.tables.specs.Tables.{Tables}
use Rattle.repeats.specs.Repeating.{Repeated, repeated}
use Rattle.stored.specs.Words.{run_in}
use Rattle.lent.specs.Lent.{stored_if}

-- the circuit repeated on the run in lent words
abbrev pub repeat_in : Dimensions → Tables → ℕ → List ℕ → List ℕ → List ℕ → List ℕ → Repeated
repeat_in d tables times gates bytes wires words = repeated d tables times gates bytes wires (run_in words)

-- the lent words after it
abbrev pub repeat_stored : Repeated → List ℕ → List ℕ
repeat_stored r words = stored_if r.outcome r.run words

-- the lent numbers after it: how many repeats, and the last mark
abbrev pub repeat_numbers : Repeated → List ℕ → List ℕ
repeat_numbers r lent = given r.outcome (r.repeats ∷ (digit r.mark ∷ [])) (λ q. lent)
