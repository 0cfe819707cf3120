-- One application of a circuit to a run: document 01, "Circuit". Refused by packing, 1, 2, 4, 3, 10, 12, 13, by evaluation, 9, 10, or by
-- reading back, 10, 12.
use Rattle.refusals.specs.Numbers.{Outcome, number_of}
use Rattle.std.specs.Prelude.{ℕ, Bool, false, List, ◌++◌, eqb, length, get_or, take, Result, Ok, Err}
use Rattle.refusals.specs.Checks.{outcome, given}
use Rattle.refusals.specs.declared.Refusal.{Refusal}
use Rattle.dimensions.specs.declared.Dimensions.{Dimensions}
use Rattle.dimensions.specs.Sizes.{state_wire_count, input_wires}
use Rattle.tables.specs.Tables.{Tables}
use Rattle.state.specs.declared.Run.{Run}
use Rattle.two_pass.specs.Evaluation.{evaluation_checks, filled_wires}
use Rattle.wires.specs.Packing.{pack_checks, packed}
use Rattle.readback.specs.Reading.{read_back}
use Rattle.netlist.specs.Outputs.{outputs_in}

-- the next run and its mark, whether that run is closed; refused, the run as it was and no mark
pub record Applied : Type 0 where
  pub outcome : Outcome
  pub run : Run
  pub mark : Bool

-- a refusal leaves the run as it was and has no mark
abbrev pub turned_back : Run → Refusal → Applied
turned_back run r = record { outcome = Err r; run = run; mark = false }

-- the next run from those of a circuit's output wires that are handed to the read-back, from the first on, and its mark, the closing wire
-- after the state's
unfoldable pub next_run : ℕ → Run → ℕ → List ℕ → Applied
next_run n run handed outputs =
    let read = read_back n (take handed outputs) in
    given read.outcome (record { outcome = Ok tt; run = read.run; mark = eqb (get_or outputs (state_wire_count n) 0) 1 }) (turned_back run)

-- the packed bytes, the evaluator's inputs
abbrev pub inputs : Dimensions → Tables → Run → List ℕ → List ℕ
inputs d tables run bytes = take (input_wires d) (packed d tables run bytes)

module _ (d : Dimensions) (tables : Tables) (gates : List ℕ) (run : Run) (bytes wires : List ℕ) where
  -- what packing and evaluation say, before a byte is written
  unfoldable pub application_outcome : Outcome
  application_outcome = outcome (pack_checks d tables run (length bytes) ++ evaluation_checks gates (inputs d tables run bytes) wires)

  -- the wires afterwards: what evaluation leaves; as they were where packing is refused
  abbrev pub wires_after : List ℕ
  wires_after = given (outcome (pack_checks d tables run (length bytes))) (filled_wires gates (inputs d tables run bytes) wires)
      (λ r. wires)

  -- the next run and its mark, where `handed` of the output wires go to the read-back; refused, the run as it was
  unfoldable pub applied : ℕ → Applied
  unfolding application_outcome next_run
  applied handed = given application_outcome (next_run d.n run handed (outputs_in d gates wires_after)) (turned_back run)

-- the mark where an application is taken, else the refusal
abbrev pub mark_result : Applied → Result Bool Refusal
mark_result a = given a.outcome (Ok a.mark) Err

-- 0 where there is a mark, else the refusal's number
abbrev pub mark_code : Result Bool Refusal → ℕ
mark_code (Ok mark) = 0
mark_code (Err r) = number_of r
