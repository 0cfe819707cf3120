-- Rows and a run packed into bytes, a byte a wire: document 01, "Circuit", refusals 1, 2, 4, 3, then 10, 12, 13.
-- Ask: What do 10 and 12 leave in the bytes?
use Rattle.std.specs.Prelude.{ℕ, Bool, List, ◌∷◌, ◌++◌, ltb, length}
use Rattle.refusals.specs.Checks.{Check, check, outcome, given}
use Rattle.refusals.specs.declared.Refusal.TheVariants.{Wires}
use Rattle.dimensions.specs.declared.Dimensions.{Dimensions}
use Rattle.dimensions.specs.Sizes.{input_wires}
use Rattle.tables.specs.Tables.{Tables}
use Rattle.tables.specs.Rows.{rows_of}
use Rattle.tables.specs.Acceptance.{table_checks}
use Rattle.state.specs.declared.Run.{Run}
use Rattle.state.specs.State.{State, state_of}
use Rattle.state.specs.WellFormed.{state_checks}
use Rattle.gates.specs.Memory.{bytes_of, over}
use Rattle.wires.specs.Layout.{rows_bits, state_bits}

-- the input values: left rows, right rows, public rows, state
unfoldable pub input_bits : Dimensions → Tables → State → List Bool
input_bits d tables s = rows_bits d.n (rows_of d tables) ++ state_bits d.n s

-- 1, 2, 4, 3, then 10 where the lent bytes are too few, then 12, 13
abbrev pub pack_checks : Dimensions → Tables → Run → ℕ → List Check
pack_checks d tables run room = table_checks d tables ++ (check (ltb room (input_wires d)) Wires ∷ state_checks d run)

-- the lent bytes afterwards: the input values, then what was there; refused, as they were
unfoldable pub packed : Dimensions → Tables → Run → List ℕ → List ℕ
packed d tables run bytes =
    given (outcome (pack_checks d tables run (length bytes))) (over (bytes_of (input_bits d tables (state_of run))) bytes) (λ r. bytes)
