-- The circuit of some dimensions, generated and then repeated on a run: document 01, "Circuit". All that turns a call back is judged before
-- anything is written: 1, 2, 4, 3, 7, 10, 12, 13.
-- Ask: Are all refusals judged first, and are its repeats demand 3's?
use Rattle.refusals.specs.Numbers.{Outcome, number_of}
use Rattle.std.specs.Prelude.{ℕ, ◌+◌, ◌*◌, ◌-◌, Bool, false, ◌||◌, List, [], ◌∷◌, ◌++◌, ltb, length, take, replicate, Result, Ok, Err}
use Rattle.refusals.specs.Checks.{Check, check, outcome, given}
use Rattle.refusals.specs.declared.Refusal.{Refusal}
use Rattle.refusals.specs.declared.Refusal.TheVariants.{GateBuffer, Wires}
use Rattle.dimensions.specs.declared.Dimensions.{Dimensions}
use Rattle.dimensions.specs.Sizes.{ceiling, state_wire_count, input_wires}
use Rattle.tables.specs.Tables.{Tables}
use Rattle.tables.specs.Acceptance.{table_checks}
use Rattle.state.specs.declared.Run.{Run}
use Rattle.state.specs.State.{state_of, if_open}
use Rattle.state.specs.WellFormed.{state_checks}
use Rattle.wires.specs.Packing.{packed}
use Rattle.netlist.specs.Netlist.{gates_on}
use Rattle.netlist.specs.Outputs.{closed}
use Rattle.generator.specs.Generation.{written_words}
use Rattle.repeats.specs.declared.Ending.{Ending}
use Rattle.repeats.specs.Application as Application
use Rattle.repeats.specs.Repeats.{Attempt, Lent, Repeat, circuit_words, last_run, repeats}

-- 1, 2, 4, 3; 7 where there are fewer gate words than three for each gate of the ceiling
abbrev pub generation_checks : Dimensions → Tables → ℕ → List Check
generation_checks d tables gates = table_checks d tables ++ (check (ltb gates (3 * ceiling d)) GateBuffer ∷ [])

-- 10 where the bytes are fewer than the inputs, or the wires fewer than the inputs and the circuit's own gates
abbrev pub wire_checks : Dimensions → ℕ → ℕ → List Check
wire_checks d bytes wires = check (ltb bytes (input_wires d) || ltb wires (input_wires d + length (gates_on d))) Wires ∷ []

-- 1, 2, 4, 3, 7; 10; 12, 13
abbrev pub repeat_checks : Dimensions → Tables → ℕ → ℕ → ℕ → Run → List Check
repeat_checks d tables gates bytes wires run = generation_checks d tables gates ++ (wire_checks d bytes wires ++ state_checks d run)

-- ---- the repeats

-- an attempt with these buffers, all outputs handed to the read-back
abbrev pub whole : Dimensions → List ℕ → List ℕ → Attempt
whole d bytes wires = Lent bytes wires (state_wire_count d.n + 1)

-- demand 3's repeats over tables that stay, at most a given number; none of a run that is closed
unfoldable pub made : Dimensions → Tables → ℕ → List ℕ → List ℕ → Run → List Repeat
made d tables times bytes wires run = if_open run.standing (repeats d (λ i. tables) times run (replicate times (whole d bytes wires))) []

-- the run that the last repeat began with
abbrev pub run_before : Run → List Repeat → Run
run_before run h = last_run run (take (length h - 1) h)

-- the lent bytes after such repeats: what the last one packed
abbrev pub bytes_left_by : Dimensions → Tables → List ℕ → Run → List Repeat → List ℕ
bytes_left_by d tables bytes run [] = bytes
bytes_left_by d tables bytes run (r ∷ later) = packed d tables (run_before run (r ∷ later)) bytes

-- the lent wires: what the last one evaluated
abbrev pub wires_left : Dimensions → Tables → List ℕ → List ℕ → Run → List Repeat → List ℕ
wires_left d tables bytes wires run [] = wires
wires_left d tables bytes wires run (r ∷ later) =
    Application.wires_after d tables (circuit_words d) (run_before run (r ∷ later)) bytes wires

-- ---- the call

-- the run after the repeats, how many there were, and the last mark, whether that run is closed; refused, the run as it was
pub record Repeated : Type 0 where
  pub outcome : Outcome
  pub run : Run
  pub repeats : ℕ
  pub mark : Bool

-- the run after these repeats, how many there are, and whether that run is closed
abbrev pub repeated_by : Run → List Repeat → Repeated
repeated_by run h = let last = last_run run h in record { outcome = Ok tt; run = last; repeats = length h; mark = closed (state_of last) }

-- refused, the run as it was, with no repeat and no mark
abbrev pub refused_with : Run → Refusal → Repeated
refused_with run r = record { outcome = Err r; run = run; repeats = 0; mark = false }

module _ (d : Dimensions) (tables : Tables) (times : ℕ) (gates bytes wires : List ℕ) (run : Run) where
  -- what the checks say
  unfoldable pub allowed : Outcome
  allowed = outcome (repeat_checks d tables (length gates) (length bytes) (length wires) run)

  -- what the call gives
  unfoldable pub repeated : Repeated
  unfolding allowed made
  repeated = given allowed (repeated_by run (made d tables times bytes wires run)) (refused_with run)

  -- the gate words afterwards: the generator's; refused, as they were, and so the others
  unfoldable pub gates_after : List ℕ
  unfolding allowed
  gates_after = given allowed (written_words d gates) (λ r. gates)

  -- the bytes
  unfoldable pub bytes_after : List ℕ
  unfolding allowed made
  bytes_after = given allowed (bytes_left_by d tables bytes run (made d tables times bytes wires run)) (λ r. bytes)

  -- the wires
  unfoldable pub wires_after : List ℕ
  unfolding allowed made
  wires_after = given allowed (wires_left d tables bytes wires run (made d tables times bytes wires run)) (λ r. wires)

-- number and mark where a call is taken, else the refusal
abbrev pub ending_result : Repeated → Result Ending Refusal
ending_result r = given r.outcome (Ok (record { repeats = r.repeats; mark = r.mark })) Err

-- 0 where a call is taken, else the refusal's number
abbrev pub ending_code : Result Ending Refusal → ℕ
ending_code (Ok e) = 0
ending_code (Err r) = number_of r
