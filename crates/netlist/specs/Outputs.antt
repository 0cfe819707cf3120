-- The circuit's output values, and what is asked of a circuit in memory: document 01, "Circuit".
-- Ask: Are the last wires the next state and its closing bit?
use Rattle.std.specs.Prelude.{ℕ, ◌+◌, ◌*◌, ◌-◌, ◌/◌, ◌≤◌, ◌≡◌, Bool, true, false, List, [], ◌∷◌, ◌++◌, length, take, drop, Ok}
use Rattle.refusals.specs.Checks.{outcome}
use Rattle.words.specs.declared.Row.{Row}
use Rattle.dimensions.specs.declared.Dimensions.{Dimensions}
use Rattle.dimensions.specs.Sizes.{ceiling, state_wire_count, input_wires}
use Rattle.tables.specs.Tables.{Tables}
use Rattle.tables.specs.Rows.{rows_of}
use Rattle.state.specs.State.{State, if_open}
use Rattle.state.specs.WellFormed.{well_formed_state}
use Rattle.solver.specs.Step.{step}
use Rattle.gates.specs.Memory.{accepted, bytes_of}
use Rattle.two_pass.specs.Evaluation.{evaluation_checks, filled_wires}
use Rattle.wires.specs.Layout.{state_bits}
use Rattle.wires.specs.Packing.{input_bits}

-- satisfied or refuted
abbrev pub closed : State → Bool
closed s = if_open s.standing false true

-- the state after one giant step, then 1 if that state is closed and else 0
unfoldable pub output_bits : ℕ → List Row → State → List Bool
output_bits n rows s = state_bits n (step n rows s) ++ (closed (step n rows s) ∷ [])

-- the last 3n² + 3n + 4 wires that the evaluator fills
abbrev pub outputs_in : Dimensions → List ℕ → List ℕ → List ℕ
outputs_in d gates wires = take (state_wire_count d.n + 1) (drop (input_wires d + length gates / 3 - (state_wire_count d.n + 1)) wires)

-- gate words that carry out the giant step: no more than the ceiling, accepted by the evaluator, and on the packed bytes of any tables of
-- these dimensions and any well-formed state, in lent wires that are long enough, its last wires are the packed bytes of the next state,
-- then whether that is closed
pub record CarriesOut (d : Dimensions) (gates : List ℕ) : Type 0 where
  pub few : length gates ≤ 3 * ceiling d
  pub taken : accepted (input_wires d) gates ≡ true
  pub steps : (tables : Tables) (s : State) (wires : List ℕ) → well_formed_state d.n s ≡ true
      → input_wires d + length gates / 3 ≤ length wires
      → (outcome (evaluation_checks gates (bytes_of (input_bits d tables s)) wires) ≡ Ok tt)
      × (outputs_in d gates (filled_wires gates (bytes_of (input_bits d tables s)) wires) ≡ bytes_of (output_bits d.n (rows_of d tables) s))
