-- Demand 1 for the circuit repeated on a run: what the buffers hold makes no difference to the repeats (`made-same`), what is left in them is packed and
-- evaluated over their fronts, and the tables are read by their rows alone.
use mathlib.Core.Path.{◌≡◌, refl, sym, ap, ap₂, ◌∙◌, fun_ext}
use mathlib.Core.Bool.{Bool, false}
use mathlib.Core.List.{List, [], ◌∷◌, ◌++◌, map}
use Prim.Native.Nat.{ℕ, zero, suc, ◌+◌, ◌*◌, ◌/◌, ◌≤◌}
use native.Mathlib.Omega.{arith}
use lib.Dec.{ltb, eqb}
use lib.ListN.{length, take, drop, take-append-drop, length-take, length-map}
use lib.Seq.{take-take, take_at}
use borrow.Author.Tests.{le-ltb}
use Rattle.std.specs.Prelude.{Ok, Err}
use Rattle.refusals.specs.Numbers.{Outcome, code_of}
use Rattle.refusals.specs.Checks.{outcome, given}
use Rattle.words.specs.Booleans.{digit}
use Rattle.words.specs.Sets.{bit, all}
use Rattle.dimensions.specs.declared.Dimensions.{Dimensions}
use Rattle.dimensions.specs.Sizes.{ceiling, input_wires}
use Rattle.dimensions.proofs.Limits.{within}
use Rattle.tables.specs.Tables.{Tables}
use Rattle.tables.specs.Acceptance.{all_below}
use Rattle.state.specs.declared.Run.{Run}
use Rattle.state.specs.State.{state_of, if_open}
use Rattle.state.specs.WellFormed.{well_formed}
use Rattle.gates.specs.Gates.{wires_of}
use Rattle.gates.specs.Memory.{gates_of, bits_of, bytes_of, over}
use Rattle.gates.proofs.Circuits.{wires_length}
use Rattle.gates.proofs.InMemory.{gates_words}
use Rattle.wires.specs.Packing.{input_bits, pack_checks, packed}
use Rattle.wires.proofs.Lengths.{input_length}
use Rattle.two_pass.specs.Evaluation.{evaluation_checks, filled_wires}
use Rattle.netlist.specs.Netlist.{gates_for, gates_on}
use Rattle.generator.specs.Generation.{written_words}
use Rattle.generator.proofs.Room.{gates_few}
use Rattle.repeats.specs.Application.{Applied, application_outcome, applied, inputs}
use Rattle.repeats.specs.Application as Application
use Rattle.repeats.specs.Repeats.{Attempt, Lent, Otherwise, Repeat, circuit_words, attempted, comes_of, repeats}
use Rattle.repeats.specs.Repeating.{Repeated, repeat_checks, made, run_before, bytes_left_by, wires_left, repeated_by, refused_with}
use Rattle.repeats.specs.Repeating.{allowed, repeated, gates_after, bytes_after, wires_after}
use Rattle.repeats.proofs.Applying.{words_third}
use Rattle.repeats.proofs.RepeatChecks.{passed, generates}
use Rattle.repeats.proofs.Repeating.{made-same}
use Rattle.stored.specs.Words.{run_in}
use Rattle.host_repeats.specs.Repeats.{repeat_stored, repeat_numbers}
use Rattle.demand1.specs.Calls.{beside}
use Rattle.demand1.specs.Demand1.{Demand1}
use Rattle.demand1.specs.Named.{named_tables}
use Rattle.demand1.specs.Examples.{fresh_words}
use Rattle.demand1.specs.Circuits.{one, repeat}
use Rattle.demand1.proofs.Shapes.{by-outcome, demand, by-sizes}
use Rattle.demand1.proofs.Fronts.{named-rows, named-short, named-high, front-short, front-within, over-front, front_kept, front_stays}
use Rattle.demand1.proofs.Circuits.{pack-checked, inputs-named, pack_written, generator_written}

-- ---- the tables are read by their rows alone

module _ (d : Dimensions) (tables : Tables) where
  packed-named : (run : Run) (bytes : List ℕ) → packed d tables run bytes ≡ packed d (named_tables d tables) run bytes
  unfolding packed input_bits
  packed-named run bytes = rw (← named-short d tables, ← named-high d tables, ← named-rows d tables)

  applied-named : (gates : List ℕ) (run : Run) (bytes wires : List ℕ) (handed : ℕ)
      → applied d tables gates run bytes wires handed ≡ applied d (named_tables d tables) gates run bytes wires handed
  unfolding applied application_outcome
  applied-named gates run bytes wires handed =
      rw (← named-short d tables, ← named-high d tables, packed-named run bytes)

  -- an attempt
  pub attempted-named : (run : Run) (a : Attempt) → attempted d tables run a ≡ attempted d (named_tables d tables) run a
  attempted-named run (Lent bytes wires handed) = applied-named (circuit_words d) run bytes wires handed
  attempted-named run (Otherwise refusal) = refl

  repeats-named : (budget : ℕ) (run : Run) (attempts : List Attempt)
      → repeats d (λ i. tables) budget run attempts ≡ repeats d (λ i. named_tables d tables) budget run attempts
  unfolding repeats
  repeats-named budget run [] = refl
  repeats-named zero run (a ∷ later) = refl
  repeats-named (suc rest) run (a ∷ later) =
      ap (λ (r : Applied). comes_of r (λ next. repeats d (λ i. tables) (suc rest) next later) (λ next. repeats d (λ i. tables) rest next later))
      (attempted-named run a)
      ∙ ap₂ (λ (f g : Run → List Repeat). comes_of (attempted d (named_tables d tables) run a) f g)
      (fun_ext (λ next. repeats-named (suc rest) next later)) (fun_ext (λ next. repeats-named rest next later))

  made-named : (times : ℕ) (bytes wires : List ℕ) (run : Run) → made d tables times bytes wires run ≡ made d (named_tables d tables) times bytes wires run
  unfolding made
  made-named times bytes wires run =
      ap (λ (l : List Repeat). if_open run.standing l []) (repeats-named times run _)

-- ---- what the last repeat leaves

module _ (d : Dimensions) (tables : Tables) (bytes wires : List ℕ) where
  abbrev cut_bytes : List ℕ
  cut_bytes = take (input_wires d) bytes

  abbrev space : ℕ
  space = input_wires d + length (gates_on d)

  inputs-cut : (run : Run) → inputs d tables run bytes ≡ inputs d (named_tables d tables) run cut_bytes
  unfolding packed
  inputs-cut run =
      go (outcome (pack_checks d tables run (length bytes)))
      ∙ ap₂ (λ (o : Outcome) (l : List Bool). take (input_wires d) (given o (over (bytes_of l) cut_bytes) (λ r. cut_bytes)))
      (ap outcome (pack-checked d tables run bytes)) (inputs-named d tables run bytes)
    where
      go : (o : Outcome) → let values = bytes_of (input_bits d tables (state_of run)) in
          take (input_wires d) (given o (over values bytes) (λ r. bytes)) ≡ take (input_wires d) (given o (over values cut_bytes) (λ r. cut_bytes))
      go (Ok _) =
          let values = bytes_of (input_bits d tables (state_of run)) in
          let e = length-map (input_bits d tables (state_of run)) digit ∙ input_length d tables (state_of run) in
          take_at values (drop (length values) bytes) (input_wires d) e ∙ sym (take_at values (drop (length values) cut_bytes) (input_wires d) e)
      go (Err r) = sym (take-take (input_wires d) (input_wires d) bytes (omega arith))

  circuit-values : (input : List ℕ) → length (bytes_of (wires_of (bits_of input) (gates_of (circuit_words d)))) ≡ length input + length (gates_on d)
  unfolding circuit_words
  circuit-values input =
      length-map (wires_of (bits_of input) (gates_of (circuit_words d))) digit ∙ wires_length (bits_of input) (gates_of (circuit_words d))
      ∙ ap₂ (λ (a b : ℕ). a + b) (length-map input (λ x. eqb x 1)) (ap length (gates_words (gates_on d)))

  evaluation_cut : (input : List ℕ) → length input ≤ input_wires d
      → evaluation_checks (circuit_words d) input wires ≡ evaluation_checks (circuit_words d) input (take space wires)
  evaluation_cut input h = rw (← front-within (length input + length (circuit_words d) / 3) space wires (omega (arith, words_third d)))

  filled-cut : (input : List ℕ) → length input ≤ input_wires d
      → filled_wires (circuit_words d) input wires ≡ filled_wires (circuit_words d) input (take space wires) ++ drop space wires
  filled-cut input h =
      front_stays _ _ _ _ _ (ap outcome (evaluation_cut input h))
      (over-front (bytes_of (wires_of (bits_of input) (gates_of (circuit_words d)))) space wires (omega (arith, circuit-values input)))
      (sym (take-append-drop space wires))

  wires_cut : (run : Run) → Application.wires_after d tables (circuit_words d) run bytes wires
      ≡ Application.wires_after d (named_tables d tables) (circuit_words d) run cut_bytes (take space wires) ++ drop space wires
  wires_cut run =
      front_stays _ _ _ _ _ (ap outcome (pack-checked d tables run bytes))
      (filled-cut (inputs d tables run bytes) (omega (arith, length-take (input_wires d) (packed d tables run bytes)))
      ∙ ap (λ (l : List ℕ). filled_wires (circuit_words d) l (take space wires) ++ drop space wires) (inputs-cut run))
      (sym (take-append-drop space wires))

  bytes_left : (run : Run) (h : List Repeat)
      → bytes_left_by d tables bytes run h ≡ bytes_left_by d (named_tables d tables) cut_bytes run h ++ drop (input_wires d) bytes
  bytes_left run [] = sym (take-append-drop (input_wires d) bytes)
  bytes_left run (r ∷ later) = pack_written d tables (run_before run (r ∷ later)) bytes

  wires_left_lem : (run : Run) (h : List Repeat)
      → wires_left d tables bytes wires run h ≡ wires_left d (named_tables d tables) cut_bytes (take space wires) run h ++ drop space wires
  wires_left_lem run [] = sym (take-append-drop space wires)
  wires_left_lem run (r ∷ later) = wires_cut (run_before run (r ∷ later))

-- ---- the call

module _ (d : Dimensions) (tables : Tables) (times : ℕ) (gates bytes wires : List ℕ) (run : Run) where
  abbrev cut_gates : List ℕ
  cut_gates = take (3 * ceiling d) gates

  abbrev cut_wires : List ℕ
  cut_wires = take (space d tables bytes wires) wires

  repeat-checked : repeat_checks d tables (length gates) (length bytes) (length wires) run
      ≡ repeat_checks d (named_tables d tables) (length cut_gates) (length (cut_bytes d tables bytes wires)) (length cut_wires) run
  repeat-checked =
      rw (
        ← named-short d tables,
        ← named-high d tables,
        ← front-short (3 * ceiling d) gates,
        ← front-short (input_wires d) bytes,
        ← front-short (input_wires d + length (gates_on d)) wires,
      )

  module _ (h : outcome (repeat_checks d tables (length gates) (length bytes) (length wires) run) ≡ Ok tt) where
    made-cut : made d tables times bytes wires run ≡ made d (named_tables d tables) times (cut_bytes d tables bytes wires) cut_wires run
    made-cut =
        let p = passed d tables (length gates) (length bytes) (length wires) run h in
        let q = passed d (named_tables d tables) (length cut_gates) (length (cut_bytes d tables bytes wires)) (length cut_wires) run
        (sym (ap outcome repeat-checked) ∙ h) in
        made-named d tables times bytes wires run
        ∙ made-same d (named_tables d tables) bytes wires (cut_bytes d tables bytes wires) cut_wires
        (record { accepts = q.tables-taken; room = p.bytes-enough; space = p.wires_enough })
        (record { accepts = q.tables-taken; room = q.bytes-enough; space = q.wires_enough }) times run p.state-taken

    gates_kept : gates_after d tables times gates bytes wires run
        ≡ gates_after d (named_tables d tables) times cut_gates (cut_bytes d tables bytes wires) cut_wires run ++ drop (3 * ceiling d) gates
    unfolding gates_after allowed
    gates_kept =
        let p = passed d tables (length gates) (length bytes) (length wires) run h in
        front_kept _ _ _ _ h (ap outcome repeat-checked) (generator_written d gates (generates d tables gates p.tables-taken p.words-enough))

    bytes-kept : bytes_after d tables times gates bytes wires run
        ≡ bytes_after d (named_tables d tables) times cut_gates (cut_bytes d tables bytes wires) cut_wires run ++ drop (input_wires d) bytes
    unfolding bytes_after allowed
    bytes-kept =
        front_kept _ _ _ _ h (ap outcome repeat-checked)
        (ap (bytes_left_by d tables bytes run) made-cut
        ∙ bytes_left d tables bytes wires run (made d (named_tables d tables) times (cut_bytes d tables bytes wires) cut_wires run))

    wires_kept : wires_after d tables times gates bytes wires run
        ≡ wires_after d (named_tables d tables) times cut_gates (cut_bytes d tables bytes wires) cut_wires run ++ drop (space d tables bytes wires) wires
    unfolding wires_after allowed
    wires_kept =
        front_kept _ _ _ _ h (ap outcome repeat-checked)
        (ap (wires_left d tables bytes wires run) made-cut
        ∙ wires_left_lem d tables bytes wires run (made d (named_tables d tables) times (cut_bytes d tables bytes wires) cut_wires run))

    repeated-cut : repeated d tables times gates bytes wires run
        ≡ repeated d (named_tables d tables) times cut_gates (cut_bytes d tables bytes wires) cut_wires run
    unfolding repeated allowed
    repeated-cut =
        ap₂ (λ (o : Outcome) (l : List Repeat). given o (repeated_by run l) (refused_with run)) (ap outcome repeat-checked) made-cut

-- the gates of the example's circuit have room
pub one_fits : ltb 525 (input_wires one + length (gates_on one)) ≡ false
unfolding gates_for
one_fits = let few : length (gates_on one) ≤ ceiling one = gates_few one (within one refl) in le-ltb 525 (input_wires one + length (gates_on one)) (omega arith)

repeat-occurs : map (λ a. (repeat.call a).returned) repeat.examples ≡ 0 ∷ repeat.numbers
unfolding repeated allowed run_in fresh_words all_below all bit well_formed
repeat-occurs = rw one_fits

pub of_repeat : Demand1 repeat
unfolding repeated gates_after bytes_after wires_after allowed beside
of_repeat =
    demand repeat
    (by-sizes repeat (λ a. a.0) (λ (d, tables, times, gates, bytes, wires, run, lent) h i. (h i, tables, times, gates, bytes, wires, run, lent))
    (λ a. refl) (λ a. refl) (λ a. refl))
    (record {
      judged = λ (d, tables, times, gates, bytes, wires, run, lent).
          let h = made d tables times bytes wires (run_in run) in
          let r : Outcome → Repeated = λ o. given o (repeated_by (run_in run) h) (refused_with (run_in run)) in
          by-outcome (repeat_checks d tables (length gates) (length bytes) (length wires) (run_in run)) (gates ∷ bytes ∷ wires ∷ run ∷ lent ∷ [])
          (λ o. code_of (r o).outcome)
          (λ o. given o (written_words d gates) (λ q. gates) ∷ given o (bytes_left_by d tables bytes (run_in run) h) (λ q. bytes)
          ∷ given o (wires_left d tables bytes wires (run_in run) h) (λ q. wires) ∷ repeat_stored (r o) run ∷ repeat_numbers (r o) lent ∷ [])
          refl (λ q. refl) (λ q. refl);
      order = λ a. refl;
      occurs = repeat-occurs;
      split = λ (d, tables, times, gates, bytes, wires, run, lent).
          let j = input_wires d + length (gates_on d) in
          sym (ap₂ (λ (g : List ℕ) (l : List (List ℕ)). g ∷ l) (take-append-drop (3 * ceiling d) gates)
          (ap₂ (λ (b w : List ℕ). b ∷ w ∷ run ∷ lent ∷ []) (take-append-drop (input_wires d) bytes) (take-append-drop j wires)));
      checked = λ (d, tables, times, gates, bytes, wires, run, lent). ap outcome (repeat-checked d tables times gates bytes wires (run_in run));
      written = λ (d, tables, times, gates, bytes, wires, run, lent) h.
          ap₂ (λ (g : List ℕ) (l : List (List ℕ)). g ∷ l) (gates_kept d tables times gates bytes wires (run_in run) h)
          (ap₂ (λ (b : List ℕ) (l : List (List ℕ)). b ∷ l) (bytes-kept d tables times gates bytes wires (run_in run) h)
          (ap₂ (λ (w : List ℕ) (r : Repeated). w ∷ repeat_stored r run ∷ repeat_numbers r lent ∷ [])
          (wires_kept d tables times gates bytes wires (run_in run) h)
          (repeated-cut d tables times gates bytes wires (run_in run) h)));
    })
