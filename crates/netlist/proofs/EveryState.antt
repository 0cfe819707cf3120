-- Demand 3, every state: the evaluator takes the circuit, and on the packed bits of tables and of a well-formed state its last 3n² + 3n + 4 wires
-- are the bits of the state after one giant step, then whether it is closed. From the circuit's definition, with the lengths of what is packed;
-- that the dimensions are within their limits gives a row, and enough digits for a variable's number.
use mathlib.Core.Path.{◌≡◌, refl, ap, sym, ◌∙◌, subst}
use mathlib.Core.Bool.{Bool, true}
use mathlib.Core.List.{List, [], ◌∷◌, ◌++◌, map}
use Prim.Native.Nat.{ℕ, zero, suc, ◌+◌, ◌-◌, ◌/◌, ◌^◌, ◌≤◌, ◌<◌}
use native.Mathlib.Omega.{arith}
use lib.Dec.{leb}
use lib.ListN.{length, take, drop, length-append, length-map}
use lib.Seq.{take_at, drop-append-le}
use borrow.Author.Tests.{leb-true}
use Rattle.std.specs.Prelude.{Ok}
use Rattle.refusals.specs.Checks.{outcome}
use Rattle.words.specs.Booleans.{digit}
use Rattle.words.specs.Sets.{any}
use Rattle.words.proofs.Truth.{on}
use Rattle.words.proofs.Upto.{any_e, any_none, lowest_hit, lowest-none}
use Rattle.dimensions.specs.declared.Dimensions.{Dimensions}
use Rattle.dimensions.specs.Sizes.{row_count, state_wire_count, input_wires, size_checks}
use Rattle.dimensions.proofs.Limits.{within}
use Rattle.tables.specs.Tables.{Tables}
use Rattle.tables.specs.Rows.{rows_of}
use Rattle.state.specs.State.{State}
use Rattle.state.specs.WellFormed.{well_formed_state}
use Rattle.solver.specs.Step.{step}
use Rattle.gates.specs.Gates.{wires_of}
use Rattle.gates.specs.Memory.{words_of, accepted, bytes_of, over}
use Rattle.two_pass.specs.Evaluation.{evaluation_checks, filled_wires}
use Rattle.gates.proofs.Circuits.{ordered, wires_length}
use Rattle.gates.proofs.InMemory.{accepted-words, words-length}
use Rattle.two_pass.proofs.Evaluation.{evaluates}
use Rattle.wires.specs.Layout.{state_bits}
use Rattle.wires.specs.Packing.{input_bits}
use Rattle.tables.proofs.Numbering.{tables-length}
use Rattle.wires.proofs.Lengths.{input_length, state-length}
use Rattle.sections.specs.Addressing.{digits_for, addresses, addresses_on}
use Rattle.netlist.specs.Outputs.{closed, output_bits, outputs_in, CarriesOut}
use Rattle.netlist.specs.Netlist.{circuit, gates_for, gates_on}
use Rattle.netlist.proofs.Counts.{circuit-length, gates_length}
use Rattle.netlist.proofs.Accepted.{circuit-ordered}
use Rattle.netlist.proofs.CircuitOutputs.{circuit-outputs}

drop-map : {A B : Type 0} (f : A → B) (k : ℕ) (l : List A) → drop k (map f l) ≡ map f (drop k l)
drop-map f zero l = refl
drop-map f (suc k) [] = refl
drop-map f (suc k) (x ∷ l) = drop-map f k l

inputs-at : (d : Dimensions) → input_wires d ≡ (addresses_on d).inputs
inputs-at d = omega arith

-- enough digits for the number of one of n variables
room_for : (n : ℕ) → n ≤ 32 → n ≤ 2 ^ digits_for n
room_for n h =
    on (any (λ b. leb n (2 ^ b)) 5)
    (λ e. let x = any_e (λ b. leb n (2 ^ b)) 5 e in leb-true n (2 ^ digits_for n) (lowest_hit (λ b. leb n (2 ^ b)) 5 x.0 x.1 x.2).1)
    (λ e. let q : digits_for n ≡ 5 = lowest-none (λ b. leb n (2 ^ b)) 5 (any_none (λ b. leb n (2 ^ b)) 5 e) in rw q h)

module _ (d : Dimensions) (fits : outcome (size_checks d) ≡ Ok tt) where
  a-row : 0 < row_count d
  a-row = omega (arith, (within d fits).left_least)

  room : d.n ≤ 2 ^ digits_for d.n
  room = room_for d.n (within d fits).n-most

  gates_ordered : ordered (input_wires d) (gates_on d) ≡ true
  unfolding gates_for
  gates_ordered =
      ap (λ (k : ℕ). ordered k (circuit (addresses_on d))) (inputs-at d) ∙ circuit-ordered d.n (row_count d) (digits_for d.n) room a-row

  -- the evaluator takes the circuit's words
  pub gates_accepted : accepted (input_wires d) (words_of (gates_on d)) ≡ true
  gates_accepted = accepted-words (input_wires d) (gates_on d) ∙ gates_ordered

  module _ (tables : Tables) (s : State) where
    abbrev bits : List Bool
    bits = input_bits d tables s

    -- its last wires
    pub every_state : well_formed_state d.n s ≡ true
        → drop (input_wires d + length (gates_on d) - suc (state_wire_count d.n)) (wires_of bits (gates_on d)) ≡ output_bits d.n (rows_of d tables) s
    unfolding gates_for input_bits
    every_state formed =
        let n = d.n in
        let b = digits_for n in
        let rows = rows_of d tables in
        let e : input_wires d + length (gates_on d) - suc (state_wire_count n) ≡ (addresses_on d).outputs =
        omega (arith, circuit-length n (row_count d) b, inputs-at d) in
        ap (λ (k : ℕ). drop k (wires_of bits (gates_on d))) e
        ∙ subst (λ (m : ℕ). 0 < m → length bits ≡ (addresses n m).inputs
        → drop (addresses n m).outputs (wires_of bits (circuit (addresses n m))) ≡ output_bits n rows s)
        (tables-length d tables) (λ h l. circuit-outputs n b rows s h room l formed) a-row (input_length d tables s ∙ inputs-at d)

    outputs-length : length (bytes_of (output_bits d.n (rows_of d tables) s)) ≡ state_wire_count d.n + 1
    unfolding output_bits
    outputs-length =
        let next = step d.n (rows_of d tables) s in
        length-map (state_bits d.n next ++ (closed next ∷ [])) digit ∙ length-append (state_bits d.n next) (closed next ∷ [])
        ∙ ap (λ (k : ℕ). k + 1) (state-length d.n next)

    -- in a buffer whose front holds the wires' bytes
    pub outputs-filled : well_formed_state d.n s ≡ true → (wires : List ℕ)
        → outputs_in d (words_of (gates_on d)) (over (bytes_of (wires_of bits (gates_on d))) wires) ≡ bytes_of (output_bits d.n (rows_of d tables) s)
    outputs-filled formed wires =
        let values = wires_of bits (gates_on d) in
        let k = state_wire_count d.n + 1 in
        let at = input_wires d + length (gates_on d) - suc (state_wire_count d.n) in
        let same : input_wires d + length (words_of (gates_on d)) / 3 - k ≡ at = omega (arith, words-length (gates_on d)) in
        let long : length (bytes_of values) ≡ input_wires d + length (gates_on d) =
        length-map values digit ∙ wires_length bits (gates_on d) ∙ ap (λ (j : ℕ). j + length (gates_on d)) (input_length d tables s) in
        ap (λ (j : ℕ). take k (drop j (over (bytes_of values) wires))) same
        ∙ ap (take k)
        (drop-append-le at (bytes_of values) _ (omega arith)
        ∙ ap (λ (l : List ℕ). l ++ drop (length (bytes_of values)) wires) (drop-map digit at values ∙ ap bytes_of (every_state formed)))
        ∙ take_at _ _ k outputs-length

    -- the evaluator takes the packed bytes, and fills the buffer's front
    pub evaluated : (wires : List ℕ) → input_wires d + length (gates_on d) ≤ length wires
        → (outcome (evaluation_checks (words_of (gates_on d)) (bytes_of bits) wires) ≡ Ok tt)
        × (filled_wires (words_of (gates_on d)) (bytes_of bits) wires ≡ over (bytes_of (wires_of bits (gates_on d))) wires)
    evaluated wires h =
        let l = input_length d tables s in
        evaluates bits (gates_on d) wires (ap (λ (k : ℕ). ordered k (gates_on d)) l ∙ gates_ordered)
        (subst (λ (k : ℕ). k + length (gates_on d) ≤ length wires) (sym l) h)

  -- the words of the circuit of dimensions that the size checks take carry out the giant step
  pub gates_carry_out : CarriesOut d (words_of (gates_on d))
  gates_carry_out = record {
    few = omega (arith, words-length (gates_on d), gates_length d.n (row_count d) (within d fits).n_least a-row);
    taken = gates_accepted;
    steps = λ tables s wires formed h.
        let e = evaluated tables s wires (omega (arith, words-length (gates_on d))) in
        (e.0, ap (outputs_in d (words_of (gates_on d))) e.1 ∙ outputs-filled tables s formed wires);
  }
