-- What an application gives by what packing and evaluation say: each from the order of the checks. What was packed is bits, so only gates and room are left to
-- judge.
use mathlib.Core.Path.{◌≡◌, refl, sym, ap, ap₂, ◌∙◌}
use mathlib.Core.Bool.{Bool, true, not}
use mathlib.Core.List.{List, [], ◌∷◌}
use Prim.Native.Nat.{ℕ, ◌+◌, ◌*◌, ◌-◌, ◌/◌, ◌≤◌, ◌<◌}
use native.Mathlib.Nat.{mul-le-mul}
use native.Mathlib.Omega.{arith}
use lib.Dec.{eqb, ltb}
use borrow.Author.Tests.{ltb-false}
use lib.ListN.{length, get_or, take, drop, length-map, length-drop}
use lib.Seq.{length-take-le}
use Rattle.std.specs.Prelude.{Result, Ok, Err}
use Rattle.refusals.specs.Checks.{outcome, given}
use Rattle.refusals.specs.Numbers.{Outcome, said}
use Rattle.refusals.specs.declared.Refusal.{Refusal}
use Rattle.refusals.specs.declared.Refusal.TheVariants.{Gates, Wires}
use Rattle.refusals.proofs.Outcomes.{outcome-taken, outcome-refused, check_passed, checks-taken, given-said}
use Rattle.words.specs.Booleans.{digit}
use Rattle.dimensions.specs.declared.Dimensions.{Dimensions}
use Rattle.dimensions.specs.Sizes.{row_count, state_wire_count, input_wires}
use Rattle.tables.proofs.Accepted.{Accepted}
use Rattle.tables.specs.Tables.{Tables}
use Rattle.state.specs.declared.Run.{Run}
use Rattle.state.specs.State.{state_of}
use Rattle.gates.specs.Gates.{wires_of}
use Rattle.gates.specs.Memory as Memory
use Rattle.gates.specs.Memory.{accepted, gates_of, bits_of, bytes_of, over}
use Rattle.two_pass.specs.Evaluation.{evaluation_checks, filled_wires}
use Rattle.gates.proofs.InMemory.{bits-bytes, bits_of_bytes_of}
use Rattle.two_pass.proofs.Evaluation as Evaluation
use Rattle.wires.specs.Packing.{input_bits, pack_checks, packed}
use Rattle.wires.proofs.Lengths.{input_length}
use Rattle.wires.proofs.Checks.{packed-front}
use Rattle.readback.specs.declared.Read.{Read}
use Rattle.readback.specs.Reading.{read_back}
use Rattle.netlist.specs.Outputs.{outputs_in}
use Rattle.repeats.specs.Application.{Applied, turned_back, next_run, inputs, application_outcome, wires_after, applied, mark_result, mark_code}

-- after a state's wires there is room for the closing one: a row of each station has two wires at least
pub outputs_fit : (d : Dimensions) (tables : Tables) → Accepted d tables → state_wire_count d.n + 4 ≤ input_wires d
outputs_fit d tables a =
    let z = a.size in
    omega (arith, mul-le-mul {n₁ = 2} {m₁ = 2} {n₂ = 2 * d.n} {m₂ = row_count d} (omega (arith, z.n_least)) (omega (arith, z.left_least, z.right_least)))

module _ (d : Dimensions) (tables : Tables) (gates : List ℕ) (run : Run) (bytes wires : List ℕ) where
  -- ---- refused

  pub refused : (handed : ℕ) (r : Refusal) → application_outcome d tables gates run bytes wires ≡ Err r
      → applied d tables gates run bytes wires handed ≡ turned_back run r
  unfolding applied
  refused handed r e = rw e

  pub refuse_packing : (r : Refusal) → outcome (pack_checks d tables run (length bytes)) ≡ Err r
      → application_outcome d tables gates run bytes wires ≡ Err r
  unfolding application_outcome
  refuse_packing r e = outcome-refused (pack_checks d tables run (length bytes)) (evaluation_checks gates (inputs d tables run bytes) wires) r e

  -- then the wires are as they were
  pub unfilled : (r : Refusal) → outcome (pack_checks d tables run (length bytes)) ≡ Err r → wires ≡ wires_after d tables gates run bytes wires
  unfilled r e = sym (ap (λ (o : Outcome). given o (filled_wires gates (inputs d tables run bytes) wires) (λ q. wires)) e)

  -- ---- packed

  module _ (e : outcome (pack_checks d tables run (length bytes)) ≡ Ok tt) where
    abbrev bits : List Bool
    bits = input_bits d tables (state_of run)

    inputs_are : inputs d tables run bytes ≡ bytes_of bits
    inputs_are = packed-front d tables run bytes e

    inputs-length : length (inputs d tables run bytes) ≡ input_wires d
    inputs-length = ap length inputs_are ∙ length-map bits digit ∙ input_length d tables (state_of run)

    evaluation_decides : application_outcome d tables gates run bytes wires ≡ outcome (evaluation_checks gates (inputs d tables run bytes) wires)
    unfolding application_outcome
    evaluation_decides = outcome-taken (pack_checks d tables run (length bytes)) (evaluation_checks gates (inputs d tables run bytes) wires) e

    -- what evaluation leaves
    pub filled_are : wires_after d tables gates run bytes wires ≡ filled_wires gates (inputs d tables run bytes) wires
    filled_are = ap (λ (o : Outcome). given o (filled_wires gates (inputs d tables run bytes) wires) (λ r. wires)) e

    -- refused by evaluation
    pub refuse_evaluation : (r : Refusal) → outcome (evaluation_checks gates (inputs d tables run bytes) wires) ≡ Err r
        → application_outcome d tables gates run bytes wires ≡ Err r
    refuse_evaluation r k = evaluation_decides ∙ k

    -- evaluated: there is room for the inputs and the gates, and the outputs are left to read
    module _ (t : outcome (evaluation_checks gates (inputs d tables run bytes) wires) ≡ Ok tt) where
      pub wires_room : input_wires d + length gates / 3 ≤ length wires
      wires_room =
          let i = inputs d tables run bytes in
          let few = ltb (length wires) (length i + length gates / 3) in
          let k = checks-taken (not (accepted (length i) gates)) Gates _ t in
          omega (arith, ltb-false (length wires) (length i + length gates / 3) (check_passed few Wires _ k), inputs-length)

      pub evaluated_next : (handed : ℕ) → applied d tables gates run bytes wires handed
          ≡ next_run d.n run handed (outputs_in d gates (wires_after d tables gates run bytes wires))
      unfolding applied
      evaluated_next handed =
          ap (λ (o : Outcome). given o (next_run d.n run handed (outputs_in d gates (wires_after d tables gates run bytes wires))) (turned_back run))
          (evaluation_decides ∙ t)

    module _ (a : accepted (input_wires d) gates ≡ true) where
      good : accepted (length (inputs d tables run bytes)) gates ≡ true
      good = ap (λ (k : ℕ). accepted k gates) inputs-length ∙ a

      pub refuse_wires : length wires < input_wires d + length gates / 3 → application_outcome d tables gates run bytes wires ≡ Err Wires
      refuse_wires h =
          evaluation_decides ∙ sym (Evaluation.no_room gates (inputs d tables run bytes) wires good (omega (arith, inputs-length))).0

      module _ (h : input_wires d + length gates / 3 ≤ length wires) where
        evaluated : (Ok tt ≡ outcome (evaluation_checks gates (inputs d tables run bytes) wires))
            × (over (bytes_of (wires_of (bits_of (inputs d tables run bytes)) (gates_of gates))) wires ≡ filled_wires gates (inputs d tables run bytes) wires)
        evaluated =
            Evaluation.taken gates (inputs d tables run bytes) wires good (omega (arith, inputs-length)) (ap Memory.bits inputs_are ∙ bits-bytes bits)

        pub take_all : application_outcome d tables gates run bytes wires ≡ Ok tt
        take_all = evaluation_decides ∙ sym evaluated.0

        pub wires_then : wires_after d tables gates run bytes wires ≡ over (bytes_of (wires_of bits (gates_of gates))) wires
        wires_then =
            filled_are
            ∙ sym evaluated.1
            ∙ ap (λ (w : List Bool). over (bytes_of (wires_of w (gates_of gates))) wires) (ap bits_of inputs_are ∙ bits_of_bytes_of bits)

-- the part of the wires that is read
module _ (d : Dimensions) (gates : List ℕ) (i k : ℕ) (p : i ≡ input_wires d) (q : k ≡ state_wire_count d.n)
    (fit : state_wire_count d.n + 4 ≤ input_wires d) (w : List ℕ) where
  pub outputs-part : take (i + length gates / 3 - (i + length gates / 3 - (k + 1))) (drop (i + length gates / 3 - (k + 1)) w) ≡ outputs_in d gates w
  outputs-part =
      let many : i + length gates / 3 - (i + length gates / 3 - (k + 1)) ≡ state_wire_count d.n + 1 = omega arith in
      ap₂ (λ (m at : ℕ). take m (drop at w)) many (ap₂ (λ (x y : ℕ). x + length gates / 3 - (y + 1)) p q)

-- there are as many of them as a state has wires, and one
pub outputs-length : (d : Dimensions) (gates w : List ℕ) → state_wire_count d.n + 4 ≤ input_wires d → input_wires d + length gates / 3 ≤ length w
    → length (outputs_in d gates w) ≡ state_wire_count d.n + 1
outputs-length d gates w fit room =
    let at = input_wires d + length gates / 3 - (state_wire_count d.n + 1) in
    length-take-le (state_wire_count d.n + 1) (drop at w) (omega (arith, length-drop at w))

-- ---- what the read-back gives, where all outputs are handed to it

module _ (n : ℕ) (run : Run) (outputs : List ℕ) where
  abbrev read : Read
  read = read_back n (take (state_wire_count n + 1) outputs)

  pub next-refused : (r : Refusal) → read.outcome ≡ Err r → next_run n run (state_wire_count n + 1) outputs ≡ turned_back run r
  unfolding next_run
  next-refused r e = rw e

  pub next-taken : read.outcome ≡ Ok tt → (x : Run) → x ≡ read.run → (b : Bool) → b ≡ eqb (get_or outputs (state_wire_count n) 0) 1
      → ◌≡◌ {A = Applied} (record { outcome = Ok tt; run = x; mark = b }) (next_run n run (state_wire_count n + 1) outputs)
  unfolding next_run
  next-taken e x p b q = rw e (ap₂ (λ (y : Run) (m : Bool). record { outcome = Ok tt; run = y; mark = m }) p q)

-- ---- what `apply` gives

module _ (d : Dimensions) (tables : Tables) (gates : List ℕ) (run : Run) (bytes wires : List ℕ) where
  abbrev given_back : Applied
  given_back = applied d tables gates run bytes wires (state_wire_count d.n + 1)

  -- result, run, bytes and wires are the definitions', and the result says the number of its outcome
  pub apply_said : {x : Applied} {b w : List ℕ} → x ≡ given_back → b ≡ packed d tables run bytes → w ≡ wires_after d tables gates run bytes wires
      → {r : Result Bool Refusal} {next : Run} → r ≡ mark_result x → next ≡ x.run
      → (r ≡ mark_result given_back) × ((next ≡ given_back.run) × ((b ≡ packed d tables run bytes)
      × ((w ≡ wires_after d tables gates run bytes wires) × (mark_code r ∷ [] ≡ said given_back.outcome []))))
  apply_said e p q v n =
      let says : Result Bool Refusal → List ℕ = λ m. mark_code m ∷ [] in
      let value = v ∙ ap mark_result e in
      let said_is = given-said says given_back.outcome (Ok given_back.mark) Err [] refl (λ x. refl) in
      (value, (n ∙ ap (λ (a : Applied). a.run) e, (p, (q, ap says value ∙ said_is))))
