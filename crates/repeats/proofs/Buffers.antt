-- Buffers that are used again: the front that one repeat writes, the next one writes over, so only lengths and what follows the front matter.
-- From what packing and evaluation leave.
use mathlib.Core.Path.{◌≡◌, refl, sym, ap, ◌∙◌}
use mathlib.Core.Bool.{Bool}
use mathlib.Core.List.{List, ◌++◌}
use Prim.Native.Nat.{ℕ, ◌+◌, ◌≤◌}
use native.Mathlib.Omega.{arith}
use lib.ListN.{length, drop, length-map}
use lib.Seq.{drop_at, length-take-le, length_front}
use Rattle.std.specs.Prelude.{Result, Ok, Err}
use Rattle.refusals.specs.Checks.{outcome}
use Rattle.refusals.specs.declared.Refusal.{Refusal}
use Rattle.words.specs.Booleans.{digit}
use Rattle.dimensions.specs.declared.Dimensions.{Dimensions}
use Rattle.dimensions.specs.Sizes.{state_wire_count, input_wires}
use Rattle.tables.specs.Tables.{Tables}
use Rattle.tables.specs.Rows.{rows_of}
use Rattle.state.specs.declared.Run.{Run}
use Rattle.state.specs.State.{State, state_of, run_of}
use Rattle.state.specs.WellFormed.{state_checks}
use Rattle.solver.specs.Step.{step}
use Rattle.solver.proofs.StepLaws.{step-well_formed}
use Rattle.gates.specs.Gates.{wires_of}
use Rattle.gates.specs.Memory.{bytes_of, over}
use Rattle.gates.proofs.Circuits.{wires_length}
use Rattle.wires.specs.Packing.{input_bits, packed}
use Rattle.wires.proofs.Lengths.{input_length}
use Rattle.wires.proofs.Checks.{pack-taken}
use Rattle.netlist.specs.Netlist.{gates_on}
use Rattle.netlist.specs.Outputs.{closed}
use Rattle.repeats.specs.Application.{wires_after, applied, mark_result}
use Rattle.repeats.specs.Repeats.{Accepts, circuit_words}
use Rattle.repeats.proofs.Applying.{packs, formed, wires_are, next-is, fine}

-- one length, and the same from place k on
pub record Agree (k : ℕ) (a b : List ℕ) : Type 0 where
  pub long : length a ≡ length b
  pub behind : drop k a ≡ drop k b

-- every list agrees with itself
pub agree_refl : (k : ℕ) (a : List ℕ) → Agree k a a
agree_refl k a = record { long = refl; behind = refl }

module _ (k : ℕ) (front : List ℕ) (e : length front ≡ k) where
  over-same : (a b : List ℕ) → Agree k a b → over front a ≡ over front b
  over-same a b h = ap (λ (i : ℕ). front ++ drop i a) e ∙ ap (λ (l : List ℕ). front ++ l) h.behind ∙ ap (λ (i : ℕ). front ++ drop i b) (sym e)

  over_agrees : (a : List ℕ) → k ≤ length a → Agree k (over front a) a
  over_agrees a h = record {
    long = length_front a front (length front) (sym (length-take-le (length front) a (omega (arith, e))));
    behind = drop_at front _ k e ∙ ap (λ (i : ℕ). drop i a) e;
  }

-- accepted tables, and room for the inputs and for all wires
pub record Ready (d : Dimensions) (tables : Tables) (bytes wires : List ℕ) : Type 0 where
  pub accepts : Accepts d tables
  pub room : input_wires d ≤ length bytes
  pub space : input_wires d + length (gates_on d) ≤ length wires

module _ (d : Dimensions) (tables : Tables) (bytes wires : List ℕ) (y : Ready d tables bytes wires) (run : Run) (ok : outcome (state_checks d run) ≡ Ok tt)
  where
    abbrev bits : List Bool
    bits = input_bits d tables (state_of run)

    abbrev values : List Bool
    values = wires_of bits (gates_on d)

    bits-length : length (bytes_of bits) ≡ input_wires d
    bits-length = length-map bits digit ∙ input_length d tables (state_of run)

    values_length : length (bytes_of values) ≡ input_wires d + length (gates_on d)
    values_length = length-map values digit ∙ wires_length bits (gates_on d) ∙ ap (λ (k : ℕ). k + length (gates_on d)) (input_length d tables (state_of run))

    packed-is : packed d tables run bytes ≡ over (bytes_of bits) bytes
    packed-is = sym (pack-taken d tables run bytes (packs d tables y.accepts run ok bytes wires y.room))

    filled_is : wires_after d tables (circuit_words d) run bytes wires ≡ over (bytes_of values) wires
    filled_is = wires_are d tables y.accepts run ok bytes wires y.room y.space

    -- what packing leaves agrees with what it found, from the inputs on
    pub packed_agrees : Agree (input_wires d) (packed d tables run bytes) bytes
    packed_agrees = rw packed-is (over_agrees (input_wires d) (bytes_of bits) bits-length bytes y.room)

    -- and what evaluation leaves, from the last of the circuit's wires on
    pub filled_agrees : Agree (input_wires d + length (gates_on d)) (wires_after d tables (circuit_words d) run bytes wires) wires
    filled_agrees = rw filled_is (over_agrees (input_wires d + length (gates_on d)) (bytes_of values) values_length wires y.space)

    -- the next run, whatever the buffers hold
    abbrev pub next : State
    next = step d.n (rows_of d tables) (state_of run)

    -- an application gives the giant step and its mark
    pub applied-is : applied d tables (circuit_words d) run bytes wires
        (state_wire_count d.n + 1) ≡ record { outcome = Ok tt; run = run_of d.n next; mark = closed next }
    applied-is = next-is d tables y.accepts run ok bytes wires y.room y.space (state_wire_count d.n + 1) (omega arith)

    -- and is not refused
    pub applied-taken : (r : Refusal) → mark_result (applied d tables (circuit_words d) run bytes wires (state_wire_count d.n + 1)) ≡ Err r → ⊥
    applied-taken r e =
        let q : ◌≡◌ {A = Result Bool Refusal} (Ok (closed next)) (Err r) = sym (ap mark_result applied-is) ∙ e in
        let z : ◌≡◌ {A = ℕ} 0 1 = cc in omega arith

    pub next-fine : outcome (state_checks d (run_of d.n next)) ≡ Ok tt
    next-fine = fine d tables y.accepts next
        (step-well_formed d.n (rows_of d tables) (state_of run) (formed d tables y.accepts run ok bytes wires y.room))

-- ---- other buffers in their place

module _ (d : Dimensions) (tables : Tables) (bytes wires bytes' wires' : List ℕ) (y : Ready d tables bytes wires)
    (b : Agree (input_wires d) bytes' bytes) (w : Agree (input_wires d + length (gates_on d)) wires' wires) where
  -- buffers that agree with these are as good
  pub ready_same : Ready d tables bytes' wires'
  ready_same = record { accepts = y.accepts; room = omega (arith, b.long, y.room); space = omega (arith, w.long, y.space) }

  module _ (run : Run) (ok : outcome (state_checks d run) ≡ Ok tt) where
    pub packed-same : packed d tables run bytes' ≡ packed d tables run bytes
    packed-same =
        packed-is d tables bytes' wires' ready_same run ok
        ∙ over-same (input_wires d) (bytes_of (input_bits d tables (state_of run))) (bits-length d tables bytes wires y run ok) bytes' bytes b
        ∙ sym (packed-is d tables bytes wires y run ok)

    pub filled-same : wires_after d tables (circuit_words d) run bytes' wires' ≡ wires_after d tables (circuit_words d) run bytes wires
    filled-same =
        filled_is d tables bytes' wires' ready_same run ok
        ∙ over-same (input_wires d + length (gates_on d)) (bytes_of (values d tables bytes wires y run ok))
        (values_length d tables bytes wires y run ok) wires' wires w
        ∙ sym (filled_is d tables bytes wires y run ok)
