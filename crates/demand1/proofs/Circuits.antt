-- Demand 1 for generating, packing and evaluating: what is written is no longer than the words named, by the lengths of circuit, inputs and wires.
use mathlib.Core.Path.{◌≡◌, refl, sym, ap, ap₂, ◌∙◌}
use mathlib.Core.Bool.{Bool, not}
use mathlib.Core.List.{List, [], ◌∷◌, ◌++◌}
use Prim.Native.Nat.{ℕ, ◌+◌, ◌*◌, ◌/◌, ◌≤◌}
use native.Mathlib.Omega.{arith}
use lib.Dec.{ltb, eqb}
use lib.ListN.{length, take, drop, take-append-drop, length-map}
use borrow.Author.Tests.{not-false}
use Rattle.std.specs.Prelude.{Result, Ok, Err}
use Rattle.refusals.specs.declared.Refusal.{Refusal}
use Rattle.refusals.specs.declared.Refusal.TheVariants.{GateBuffer, Gates}
use Rattle.refusals.specs.Numbers.{Outcome, code_of}
use Rattle.refusals.specs.Checks.{check, outcome, given}
use Rattle.refusals.proofs.Outcomes.{outcome_parts, check_passed}
use Rattle.words.specs.Booleans.{digit}
use Rattle.dimensions.proofs.Limits.{within}
use Rattle.generator.proofs.Room.{gates_few}
use Rattle.words.specs.Sets.{bit, all}
use Rattle.dimensions.specs.declared.Dimensions.{Dimensions}
use Rattle.dimensions.specs.Sizes.{size_checks, ceiling, input_wires}
use Rattle.tables.specs.Tables.{Tables}
use Rattle.tables.specs.Acceptance.{all_below}
use Rattle.state.specs.declared.Run.{Run}
use Rattle.state.specs.State.{state_of}
use Rattle.state.specs.WellFormed.{well_formed}
use Rattle.gates.specs.Gates.{wires_of}
use Rattle.gates.specs.Memory.{gates_of, accepted, bits_of, bytes_of, bits, over, words_of}
use Rattle.gates.proofs.Circuits.{wires_length}
use Rattle.gates.proofs.InMemory.{words-length, accepted-length}
use Rattle.wires.specs.Packing.{input_bits, pack_checks, packed}
use Rattle.wires.proofs.Lengths.{input_length}
use Rattle.two_pass.specs.Evaluation.{evaluation_checks, filled_wires}
use Rattle.netlist.specs.Netlist.{gates_for, gates_on}
use Rattle.generator.specs.Generation.{generator_checks, generated_code, generated_numbers, written_words}
use Rattle.stored.specs.Words.{run_in}
use Rattle.lent.specs.Lent.{numbers_or}
use Rattle.demand1.specs.Calls.{beside}
use Rattle.demand1.specs.Demand1.{Demand1}
use Rattle.demand1.specs.Named.{named_tables}
use Rattle.demand1.specs.Examples.{fresh_words}
use Rattle.demand1.specs.Circuits.{generate, pack, evaluate}
use Rattle.demand1.proofs.Shapes.{by-outcome, demand, as_given, by-sizes}
use Rattle.demand1.proofs.Fronts.{named-rows, named-short, named-high, front-short, over-front, front_kept, front_stays}

-- ---- the circuit generated

module _ (d : Dimensions) (gates : List ℕ) where
  pub generator_checked : generator_checks d gates ≡ generator_checks d (take (3 * ceiling d) gates)
  generator_checked = rw (← front-short (3 * ceiling d) gates)

  -- the circuit's words are no more than three for each gate of the ceiling
  pub circuit_fits : outcome (size_checks d) ≡ Ok tt → length (words_of (gates_on d)) ≤ 3 * ceiling d
  unfolding gates_for
  circuit_fits h = let few : length (gates_on d) ≤ ceiling d = gates_few d (within d h) in omega (arith, words-length (gates_on d))

  pub generator_written : outcome (generator_checks d gates) ≡ Ok tt
      → written_words d gates ≡ written_words d (take (3 * ceiling d) gates) ++ drop (3 * ceiling d) gates
  generator_written h =
      front_kept _ _ _ _ h (ap outcome generator_checked)
      (over-front (words_of (gates_on d)) (3 * ceiling d) gates
      (circuit_fits (outcome_parts (size_checks d) (check (ltb (length gates) (3 * ceiling d)) GateBuffer ∷ []) h).0))

pub of_generate : Demand1 generate
unfolding beside
of_generate =
    demand generate
    (by-sizes generate (λ a. a.0) (λ (d, gates, count) h i. (h i, gates, count)) (λ a. refl) (λ a. refl) (λ a. refl))
    (record {
      judged = λ (d, gates, count).
          let g : Outcome → Result ℕ Refusal = λ o. given o (Ok (length (gates_on d))) Err in
          by-outcome (generator_checks d gates) (gates ∷ count ∷ []) (λ o. generated_code (g o))
          (λ o. given o (over (words_of (gates_on d)) gates) (λ r. gates) ∷ numbers_or (generated_numbers (g o)) count ∷ []) refl (λ r. refl) (λ r. refl);
      order = λ a. refl;
      occurs = refl;
      split = λ (d, gates, count). ap (λ (l : List ℕ). l ∷ count ∷ []) (sym (take-append-drop (3 * ceiling d) gates));
      checked = λ (d, gates, count). ap outcome (generator_checked d gates);
      written = λ (d, gates, count) h. ap₂ (λ (l m : List ℕ). l ∷ m ∷ []) (generator_written d gates h)
          (ap (λ (o : Outcome). numbers_or (generated_numbers (given o (Ok (length (gates_on d))) Err)) count)
          (ap outcome (generator_checked d gates)));
    })

-- ---- the inputs packed

module _ (d : Dimensions) (tables : Tables) (run : Run) (bytes : List ℕ) where
  pub pack-checked : pack_checks d tables run (length bytes) ≡ pack_checks d (named_tables d tables) run (length (take (input_wires d) bytes))
  pack-checked = rw (← named-short d tables, ← named-high d tables, ← front-short (input_wires d) bytes)

  pub inputs-named : input_bits d tables (state_of run) ≡ input_bits d (named_tables d tables) (state_of run)
  unfolding input_bits
  inputs-named = rw (← named-rows d tables)

  -- bytes packed, in the words named and in all of them, taken or not
  pub pack_written : packed d tables run bytes ≡ packed d (named_tables d tables) run (take (input_wires d) bytes) ++ drop (input_wires d) bytes
  unfolding packed
  pack_written =
      let input = input_bits d tables (state_of run) in
      front_stays _ _ _ _ _ (ap outcome pack-checked)
      (over-front (bytes_of input) (input_wires d) bytes (omega (arith, length-map input digit, input_length d tables (state_of run)))
      ∙ ap (λ (l : List Bool). over (bytes_of l) (take (input_wires d) bytes) ++ drop (input_wires d) bytes) inputs-named)
      (sym (take-append-drop (input_wires d) bytes))

pub of_pack : Demand1 pack
unfolding packed run_in fresh_words all_below all bit well_formed beside
of_pack =
    demand pack
    (by-sizes pack (λ a. a.0) (λ (d, tables, run, bytes) h i. (h i, tables, run, bytes)) (λ a. refl) (λ a. refl) (λ a. refl))
    (record {
      judged = λ (d, tables, run, bytes).
          by-outcome (pack_checks d tables (run_in run) (length bytes)) (bytes ∷ []) code_of
          (λ o. given o (over (bytes_of (input_bits d tables (state_of (run_in run)))) bytes) (λ r. bytes) ∷ []) refl (λ r. refl) (λ r. refl);
      order = λ a. refl;
      occurs = refl;
      split = λ (d, tables, run, bytes). ap (λ (l : List ℕ). l ∷ []) (sym (take-append-drop (input_wires d) bytes));
      checked = λ (d, tables, run, bytes). ap outcome (pack-checked d tables (run_in run) bytes);
      written = λ (d, tables, run, bytes) h. ap (λ (l : List ℕ). l ∷ []) (pack_written d tables (run_in run) bytes);
    })

-- ---- the gates evaluated

module _ (gates inputs wires : List ℕ) where
  abbrev room : ℕ
  room = length inputs + length gates / 3

  evaluate-checked : evaluation_checks gates inputs wires ≡ evaluation_checks gates inputs (take room wires)
  evaluate-checked = rw (← front-short room wires)

  evaluate_written : outcome (evaluation_checks gates inputs wires) ≡ Ok tt
      → filled_wires gates inputs wires ≡ filled_wires gates inputs (take room wires) ++ drop room wires
  evaluate_written h =
      front_kept _ _ _ _ h (ap outcome evaluate-checked)
      (over-front (bytes_of (wires_of (bits_of inputs) (gates_of gates))) room wires
      (omega (
        arith,
        length-map (wires_of (bits_of inputs) (gates_of gates)) digit,
        wires_length (bits_of inputs) (gates_of gates),
        length-map inputs (λ x. eqb x 1),
        accepted-length (length inputs) gates (not-false (accepted (length inputs) gates) (check_passed (not (accepted (length inputs) gates)) Gates _ h)),
      )))

pub of_evaluate : Demand1 evaluate
unfolding accepted bits beside
of_evaluate =
    demand evaluate (as_given evaluate (λ a. refl)) (record {
      judged = λ (gates, inputs, wires).
          by-outcome (evaluation_checks gates inputs wires) (wires ∷ []) code_of
          (λ o. given o (over (bytes_of (wires_of (bits_of inputs) (gates_of gates))) wires) (λ r. wires) ∷ []) refl (λ r. refl) (λ r. refl);
      order = λ a. refl;
      occurs = refl;
      split = λ (gates, inputs, wires). ap (λ (l : List ℕ). l ∷ []) (sym (take-append-drop (length inputs + length gates / 3) wires));
      checked = λ (gates, inputs, wires). ap outcome (evaluate-checked gates inputs wires);
      written = λ (gates, inputs, wires) h. ap (λ (l : List ℕ). l ∷ []) (evaluate_written gates inputs wires h);
    })
