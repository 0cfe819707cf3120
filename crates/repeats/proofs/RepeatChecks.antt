-- What the checks of a call of `repeat` lead to, each by its condition, what a call that passes them may take for granted, and what the call gives then. From
-- the order of the checks.
use mathlib.Core.Path.{◌≡◌, refl, sym, ap, ap₂, ◌∙◌}
use mathlib.Core.Bool.{true, false, ◌||◌}
use mathlib.Core.List.{List, [], ◌∷◌, ◌++◌}
use Prim.Native.Nat.{ℕ, ◌+◌, ◌*◌, ◌-◌, ◌≤◌, ◌<◌}
use native.Mathlib.Omega.{arith}
use lib.Dec.{ltb}
use lib.ListN.{length, take, drop, length-append}
use lib.Seq.{take_at}
use borrow.Author.Tests.{lt-ltb, le-ltb, ltb-false}
use Rattle.std.specs.Prelude.{Result, Ok, Err}
use Rattle.refusals.specs.Checks.{Check, check, outcome, given}
use Rattle.refusals.specs.Numbers.{Outcome, said}
use Rattle.refusals.specs.declared.Refusal.{Refusal}
use Rattle.refusals.specs.declared.Refusal.TheVariants.{GateBuffer, Wires}
use Rattle.refusals.proofs.Outcomes.{outcome-taken, outcome-refused, outcome_parts, check_passed}
use Rattle.words.proofs.Truth.{or_l, or_r}
use Rattle.dimensions.specs.declared.Dimensions.{Dimensions}
use Rattle.dimensions.specs.Sizes.{size_checks, row_count, ceiling, input_wires}
use Rattle.dimensions.proofs.Limits.{within}
use Rattle.tables.specs.Tables.{Tables}
use Rattle.tables.specs.Acceptance.{word_checks, table_checks}
use Rattle.state.specs.declared.Run.{Run}
use Rattle.state.specs.WellFormed.{state_checks}
use Rattle.gates.specs.Memory.{words_of, over}
use Rattle.gates.proofs.InMemory.{words-length}
use Rattle.sections.specs.declared.Addresses.{Addresses}
use Rattle.sections.specs.Addressing.{digits_for, addresses_on}
use Rattle.netlist.specs.Netlist.{gates_for, gates_on}
use Rattle.netlist.proofs.Counts.{circuit-length}
use Rattle.generator.specs.Generation.{generator_checks, generated, written_words}
use Rattle.generator.proofs.Room.{wires_few}
use Rattle.repeats.specs.declared.Ending.{Ending}
use Rattle.repeats.specs.Repeats.{circuit_words, circuit_in}
use Rattle.repeats.specs.Repeating.{generation_checks, wire_checks, repeat_checks, made, bytes_left_by, wires_left, repeated_by}
use Rattle.repeats.specs.Repeating.{allowed, repeated, gates_after, bytes_after, wires_after, ending_result, ending_code}

-- all wires of the circuit: its inputs and its own gates
pub all_wires : (d : Dimensions) → (addresses_on d).wires ≡ input_wires d + length (gates_on d)
unfolding gates_for
all_wires d = omega (arith, circuit-length d.n (row_count d) (digits_for d.n))

-- dimensions that the tables' checks passed
pub sizes-taken : (d : Dimensions) (tables : Tables) → outcome (table_checks d tables) ≡ Ok tt → outcome (size_checks d) ≡ Ok tt
sizes-taken d tables e = (outcome_parts (size_checks d) (word_checks d tables) e).0

-- their wires are few, and without the inputs no more than the ceiling
pub wires_small : (d : Dimensions) (tables : Tables) → outcome (table_checks d tables) ≡ Ok tt → (a : Addresses) → a ≡ addresses_on d
    → (a.inputs ≤ a.wires) × (a.wires ≤ 1048576) × (a.wires - a.inputs ≤ ceiling d)
wires_small d tables e = wires_few d (within d (sizes-taken d tables e))

-- ---- what the checks say

module _ (d : Dimensions) (tables : Tables) (gates : ℕ) where
  abbrev words : List Check
  words = check (ltb gates (3 * ceiling d)) GateBuffer ∷ []

  pub refuse_tables : (r : Refusal) → outcome (table_checks d tables) ≡ Err r → Err r ≡ outcome (generation_checks d tables gates)
  refuse_tables r e = sym (outcome-refused (table_checks d tables) words r e)

  module _ (e : outcome (table_checks d tables) ≡ Ok tt) where
    pub refuse_gates : gates < 3 * ceiling d → Err GateBuffer ≡ outcome (generation_checks d tables gates)
    refuse_gates h = sym (outcome-taken (table_checks d tables) words e ∙ rw (lt-ltb gates (3 * ceiling d) h))

    pub take_words : 3 * ceiling d ≤ gates → Ok tt ≡ outcome (generation_checks d tables gates)
    take_words h = sym (outcome-taken (table_checks d tables) words e ∙ rw (le-ltb gates (3 * ceiling d) h))

module _ (d : Dimensions) (tables : Tables) (gates bytes wires : ℕ) (run : Run) (e : outcome (table_checks d tables) ≡ Ok tt) where
  abbrev later : List Check
  later = wire_checks d bytes wires ++ state_checks d run

  -- too few gate words: 7
  pub refuse_words : gates < 3 * ceiling d → Err GateBuffer ≡ outcome (repeat_checks d tables gates bytes wires run)
  refuse_words h = sym (outcome-refused (generation_checks d tables gates) later GateBuffer (sym (refuse_gates d tables gates e h)))

  module _ (g : 3 * ceiling d ≤ gates) where
    rest : outcome (repeat_checks d tables gates bytes wires run) ≡ outcome later
    rest = outcome-taken (generation_checks d tables gates) later (sym (take_words d tables gates e g))

    -- too few bytes or wires: 10
    pub refuse_room : ltb bytes (input_wires d) || ltb wires (input_wires d + length (gates_on d)) ≡ true
        → Err Wires ≡ outcome (repeat_checks d tables gates bytes wires run)
    refuse_room h = sym (rest ∙ rw h)

    -- with room for all of them the run decides: 12, 13 or taken
    pub state_decides : ltb bytes (input_wires d) || ltb wires (input_wires d + length (gates_on d)) ≡ false
        → outcome (state_checks d run) ≡ outcome (repeat_checks d tables gates bytes wires run)
    state_decides h = sym (rest ∙ rw h)

-- ---- what a call that is taken knows

-- where the tables and the gate words are taken, the tables are accepted and there is room for the ceiling's gate words
pub words_passed : (d : Dimensions) (tables : Tables) (gates : ℕ) → outcome (generation_checks d tables gates) ≡ Ok tt
    → (outcome (table_checks d tables) ≡ Ok tt) × (3 * ceiling d ≤ gates)
words_passed d tables gates e =
    let parts = outcome_parts (table_checks d tables) (words d tables gates) e in
    (parts.0, ltb-false gates (3 * ceiling d) (check_passed (ltb gates (3 * ceiling d)) GateBuffer (Ok tt) parts.1))

-- where bytes and wires are taken, there is room for the inputs' bytes and for all wires
pub room_passed : (d : Dimensions) (bytes wires : ℕ) → outcome (wire_checks d bytes wires) ≡ Ok tt
    → (input_wires d ≤ bytes) × (input_wires d + length (gates_on d) ≤ wires)
room_passed d bytes wires e =
    let few = ltb bytes (input_wires d) in
    let r = check_passed (few || ltb wires (input_wires d + length (gates_on d))) Wires (Ok tt) e in
    (ltb-false bytes (input_wires d) (or_l few _ r), ltb-false wires (input_wires d + length (gates_on d)) (or_r few _ r))

-- accepted tables, room for the ceiling's gate words, for the inputs' bytes and for all wires, and a run that passes the checks on a state
pub record Passed (d : Dimensions) (tables : Tables) (gates bytes wires : ℕ) (run : Run) : Type 0 where
  pub tables-taken : outcome (table_checks d tables) ≡ Ok tt
  pub words-enough : 3 * ceiling d ≤ gates
  pub bytes-enough : input_wires d ≤ bytes
  pub wires_enough : input_wires d + length (gates_on d) ≤ wires
  pub state-taken : outcome (state_checks d run) ≡ Ok tt

-- where the checks of a call of `repeat` are passed, all of these hold
pub passed : (d : Dimensions) (tables : Tables) (gates bytes wires : ℕ) (run : Run) → outcome (repeat_checks d tables gates bytes wires run) ≡ Ok tt
    → Passed d tables gates bytes wires run
passed d tables gates bytes wires run e =
    let parts = outcome_parts (generation_checks d tables gates) (wire_checks d bytes wires ++ state_checks d run) e in
    let later = outcome_parts (wire_checks d bytes wires) (state_checks d run) parts.1 in
    let w = words_passed d tables gates parts.0 in
    let r = room_passed d bytes wires later.0 in
    record { tables-taken = w.0; words-enough = w.1; bytes-enough = r.0; wires_enough = r.1; state-taken = later.1 }

-- ---- the circuit's words

-- accepted tables and room for the ceiling's gate words: the generator takes them
pub generates : (d : Dimensions) (tables : Tables) (gates : List ℕ) → outcome (table_checks d tables) ≡ Ok tt → 3 * ceiling d ≤ length gates
    → outcome (generator_checks d gates) ≡ Ok tt
generates d tables gates e h =
    outcome-taken (size_checks d) (check (ltb (length gates) (3 * ceiling d)) GateBuffer ∷ []) (sizes-taken d tables e)
    ∙ rw (le-ltb (length gates) (3 * ceiling d) h)

-- what the generator then leaves: the circuit over the front of the words
pub written_is : (d : Dimensions) (gates : List ℕ) → outcome (generator_checks d gates) ≡ Ok tt → written_words d gates ≡ over (circuit_words d) gates
unfolding circuit_words
written_is d gates e = ap (λ (o : Outcome). given o (over (words_of (gates_on d)) gates) (λ r. gates)) e

-- and what it writes is the circuit
pub circuit_written : (d : Dimensions) (gates : List ℕ) → outcome (generator_checks d gates) ≡ Ok tt → circuit_in d gates ≡ circuit_words d
circuit_written d gates e = ap (λ (o : Outcome). given o (circuit_words d) (λ r. [])) e

-- so many words were written, and they are the front of what is left
abbrev pub Writes : Dimensions → List ℕ → List ℕ → ℕ → Type 0
Writes d gates out count =
    (count ≡ length (circuit_in d gates)) × ((count ≤ length out) × ((take count out ≡ circuit_in d gates) × (out ≡ written_words d gates)))

module _ (d : Dimensions) (gates out : List ℕ) (p : out ≡ written_words d gates) where
  -- the generator took the words: three for each gate that it says
  pub write_taken : (k : ℕ) → generated d gates ≡ Ok k → Writes d gates out (3 * k)
  unfolding circuit_words
  write_taken k e =
      let t = go (outcome (generator_checks d gates)) e in
      let is = circuit_written d gates t.0 in
      let count : 3 * k ≡ length (circuit_words d) = ap (λ (x : ℕ). 3 * x) t.1 ∙ sym (words-length (gates_on d)) in
      let whole : out ≡ over (circuit_words d) gates = p ∙ written_is d gates t.0 in
      let size = ap length whole ∙ length-append (circuit_words d) (drop (length (circuit_words d)) gates) in
      let front : take (3 * k) out ≡ circuit_words d =
      ap₂ (λ (i : ℕ) (l : List ℕ). take i l) count whole ∙ take_at (circuit_words d) _ (length (circuit_words d)) refl in
      (count ∙ ap length (sym is), (omega (arith, count, size), (front ∙ sym is, p)))
    where
      go : (o : Outcome) → given o (Ok (length (gates_on d))) Err ≡ Ok k → (o ≡ Ok tt) × (k ≡ length (gates_on d))
      go (Ok _) h = (refl, cc)
      go (Err r) h = absurd (let z : ◌≡◌ {A = ℕ} 0 1 = cc in omega arith)

  -- it refused: none
  pub write_refused : (r : Refusal) → generated d gates ≡ Err r → Writes d gates out 0
  write_refused r e =
      let is : circuit_in d gates ≡ [] = ap (λ (o : Outcome). given o (circuit_words d) (λ q. [])) (go (outcome (generator_checks d gates)) e) in
      (ap length (sym is), (omega arith, (sym is, p)))
    where
      go : (o : Outcome) → given o (Ok (length (gates_on d))) Err ≡ Err r → o ≡ Err r
      go (Ok _) h = absurd (let z : ◌≡◌ {A = ℕ} 0 1 = cc in omega arith)
      go (Err q) h = cc

-- ---- the call

module _ (d : Dimensions) (tables : Tables) (times : ℕ) (gates bytes wires : List ℕ) (run : Run) where
  -- result, run and buffers are the definitions', and the result says the number of its outcome
  abbrev Meets : Result Ending Refusal → Run → List ℕ → List ℕ → List ℕ → Type 0
  Meets x next g b w =
      let r = repeated d tables times gates bytes wires run in
      (x ≡ ending_result r)
      × ((next ≡ r.run)
      × ((g ≡ gates_after d tables times gates bytes wires run)
      × ((b ≡ bytes_after d tables times gates bytes wires run)
      × ((w ≡ wires_after d tables times gates bytes wires run)
      × (ending_code x ∷ [] ≡ said (outcome (repeat_checks d tables (length gates) (length bytes) (length wires) run)) [])))))

  pub repeat-refused : (r : Refusal) → outcome (repeat_checks d tables (length gates) (length bytes) (length wires) run) ≡ Err r
      → Meets (Err r) run gates bytes wires
  unfolding allowed repeated gates_after bytes_after wires_after
  repeat-refused r e = rw e (refl, (refl, (refl, (refl, (refl, refl)))))

  pub repeat-taken : outcome (repeat_checks d tables (length gates) (length bytes) (length wires) run) ≡ Ok tt
      → (x : Result Ending Refusal) (next : Run) (g b w : List ℕ) → let h = made d tables times bytes wires run in
      x ≡ ending_result (repeated_by run h) → next ≡ (repeated_by run h).run → g ≡ written_words d gates
      → b ≡ bytes_left_by d tables bytes run h → w ≡ wires_left d tables bytes wires run h → Meets x next g b w
  unfolding allowed repeated gates_after bytes_after wires_after
  repeat-taken e x next g b w p n q s t = rw e (p, (n, (q, (s, (t, ap (λ (y : Result Ending Refusal). ending_code y ∷ []) p)))))
