-- One attempt at a well-formed state with the generated circuit: where it is long enough it gives the giant step and its mark, else it is refused. The packed
-- bytes are evaluated, the last wires are the outputs, and what is handed of these is read back.
use mathlib.Core.Path.{◌≡◌, refl, sym, ap, ap₂, ◌∙◌}
use mathlib.Core.Bool.{Bool, true, false, ◌&&◌, cond, true≢false}
use mathlib.Core.List.{List, [], ◌∷◌, ◌++◌, map-append}
use Prim.Native.Nat.{ℕ, ◌+◌, ◌/◌, ◌≤◌, ◌<◌}
use native.Mathlib.Omega.{arith}
use lib.Dec.{eqb, leb}
use lib.ListN.{length, get_or, take, length-take, length-map}
use lib.Seq.{get_or_at, take_at, take-take}
use borrow.Author.Tests.{leb-true, leb-false, le-ltb}
use Rattle.std.specs.Prelude.{Ok, Err}
use Rattle.refusals.specs.Numbers.{Outcome}
use Rattle.refusals.specs.Checks.{outcome, given}
use Rattle.refusals.specs.declared.Refusal.{Refusal}
use Rattle.refusals.specs.declared.Refusal.TheVariants.{Wires}
use Rattle.words.specs.Booleans.{digit}
use Rattle.words.proofs.Truth.{on, and_l, and_r, digit-bit}
use Rattle.dimensions.specs.declared.Dimensions.{Dimensions}
use Rattle.dimensions.specs.Sizes.{size_checks, state_wire_count, input_wires}
use Rattle.tables.specs.Tables.{Tables}
use Rattle.tables.specs.Rows.{rows_of}
use Rattle.tables.proofs.Accepted.{accepted}
use Rattle.state.specs.declared.Run.{Run}
use Rattle.state.specs.State.{State, state_of, run_of}
use Rattle.solver.specs.Step.{step}
use Rattle.state.specs.WellFormed.{well_formed_state, state_checks}
use Rattle.state.proofs.HeldRun.{formed_run_e, state-back, run_of_formed}
use Rattle.solver.proofs.StepLaws.{step-well_formed}
use Rattle.state.proofs.Checks.{take-state}
use Rattle.gates.specs.Gates.{Gate, wires_of}
use Rattle.gates.specs.Memory as Memory
use Rattle.gates.specs.Memory.{bytes_of, over}
use Rattle.gates.proofs.InMemory.{words-length, gates_words}
use Rattle.wires.specs.Layout.{state_bits}
use Rattle.wires.specs.Packing.{input_bits, pack_checks}
use Rattle.wires.proofs.Lengths.{state-length}
use Rattle.wires.proofs.Checks.{Passed, passed, state_decides, refuse_room}
use Rattle.readback.specs.declared.Read.{Read}
use Rattle.readback.proofs.Checks.{no_room}
use Rattle.readback.proofs.RoundTrip.{read-front}
use Rattle.netlist.specs.Netlist.{gates_on}
use Rattle.netlist.specs.Outputs.{closed, output_bits, outputs_in}
use Rattle.netlist.proofs.EveryState.{gates_accepted, outputs-filled}
use Rattle.repeats.specs.Application.{Applied, turned_back, next_run, application_outcome, wires_after, applied}
use Rattle.repeats.specs.Repeats.{Accepts, Attempt, Lent, Otherwise, Repeat, returned, circuit_words, attempted, comes_of, long_enough}
use Rattle.repeats.proofs.RepeatChecks.{sizes-taken}
use Rattle.repeats.proofs.Judging.{refused, refuse_packing, refuse_wires, take_all, wires_then}

-- ---- the circuit in memory

module _ (d : Dimensions) where
  -- a third of the number of the circuit's words is the number of its gates
  pub words_third : length (circuit_words d) / 3 ≡ length (gates_on d)
  unfolding circuit_words
  words_third = omega (arith, words-length (gates_on d))

  -- where the checks on the sizes are passed, the circuit's words are accepted as gates after the inputs
  pub words-accepted : outcome (size_checks d) ≡ Ok tt → Memory.accepted (input_wires d) (circuit_words d) ≡ true
  unfolding circuit_words
  words-accepted fits = gates_accepted d fits

  words_gates : Memory.gates_of (circuit_words d) ≡ gates_on d
  unfolding circuit_words
  words_gates = gates_words (gates_on d)

-- ---- a run that is a well-formed state of n

module _ (d : Dimensions) (tables : Tables) (acc : Accepts d tables) (run : Run) (ok : outcome (state_checks d run) ≡ Ok tt) (bytes wires : List ℕ) where
  abbrev next : State
  next = step d.n (rows_of d tables) (state_of run)

  fits : outcome (size_checks d) ≡ Ok tt
  fits = sizes-taken d tables acc

  -- too few bytes
  few_bytes : length bytes < input_wires d → application_outcome d tables (circuit_words d) run bytes wires ≡ Err Wires
  few_bytes h = refuse_packing d tables (circuit_words d) run bytes wires Wires (sym (refuse_room d tables run (length bytes) acc h))

  module _ (room : input_wires d ≤ length bytes) where
    pub packs : outcome (pack_checks d tables run (length bytes)) ≡ Ok tt
    packs = sym (state_decides d tables run (length bytes) acc room) ∙ ok

    held : Passed d tables run (length bytes)
    held = passed d tables run (length bytes) packs

    pub formed : well_formed_state d.n (state_of run) ≡ true
    formed = ap (λ (k : ℕ). well_formed_state k (state_of run)) (sym held.same) ∙ (formed_run_e run held.formed).state

    -- too few wires
    few_wires : length wires < input_wires d + length (gates_on d) → application_outcome d tables (circuit_words d) run bytes wires ≡ Err Wires
    few_wires h = refuse_wires d tables (circuit_words d) run bytes wires packs (words-accepted d fits) (omega (arith, words_third d))

    -- enough of both
    module _ (space : input_wires d + length (gates_on d) ≤ length wires) where
      abbrev bits : List Bool
      bits = input_bits d tables (state_of run)

      abbrev values : List Bool
      values = wires_of bits (gates_on d)

      enough : input_wires d + length (circuit_words d) / 3 ≤ length wires
      enough = omega (arith, words_third d)

      all-taken : application_outcome d tables (circuit_words d) run bytes wires ≡ Ok tt
      all-taken = take_all d tables (circuit_words d) run bytes wires packs (words-accepted d fits) enough

      pub wires_are : wires_after d tables (circuit_words d) run bytes wires ≡ over (bytes_of values) wires
      wires_are =
          wires_then d tables (circuit_words d) run bytes wires packs (words-accepted d fits) enough
          ∙ ap (λ (gs : List Gate). over (bytes_of (wires_of bits gs)) wires) (words_gates d)

      outputs_are : outputs_in d (circuit_words d) (wires_after d tables (circuit_words d) run bytes wires)
          ≡ bytes_of (output_bits d.n (rows_of d tables) (state_of run))
      unfolding circuit_words
      outputs_are =
          ap (outputs_in d (circuit_words d)) wires_are
          ∙ outputs-filled d fits tables (state_of run) formed wires

      abbrev outputs : List ℕ
      outputs = bytes_of (state_bits d.n next) ++ (digit (closed next) ∷ [])

      front_length : length (bytes_of (state_bits d.n next)) ≡ state_wire_count d.n
      front_length = length-map (state_bits d.n next) digit ∙ state-length d.n next

      -- only the read-back is left to judge
      by_reading : (handed : ℕ) → applied d tables (circuit_words d) run bytes wires handed ≡ next_run d.n run handed outputs
      unfolding applied output_bits
      by_reading handed =
          ap (λ (o : Outcome). given o
          (next_run d.n run handed (outputs_in d (circuit_words d) (wires_after d tables (circuit_words d) run bytes wires))) (turned_back run)) all-taken
          ∙ ap (next_run d.n run handed) (outputs_are ∙ map-append digit (state_bits d.n next) (closed next ∷ []))

      -- too few of them are handed to it
      few-handed : (handed : ℕ) → handed < state_wire_count d.n → applied d tables (circuit_words d) run bytes wires handed ≡ turned_back run Wires
      unfolding next_run
      few-handed handed h =
          let short : length (take handed outputs) < state_wire_count d.n = omega (arith, length-take handed outputs) in
          by_reading handed
          ∙ ap (λ (x : Read). given x.outcome (record { outcome = Ok tt; run = x.run; mark = eqb (get_or outputs (state_wire_count d.n) 0) 1 })
          (turned_back run))
          (let z = held.allowed.size in
          sym (no_room d.n (take handed outputs) (rw (le-ltb d.n 1 z.n_least, le-ltb 32 d.n z.n-most)) short))

      -- enough are
      pub next-is : (handed : ℕ) → state_wire_count d.n ≤ handed
          → applied d tables (circuit_words d) run bytes wires handed ≡ record { outcome = Ok tt; run = run_of d.n next; mark = closed next }
      unfolding next_run
      next-is handed h =
          let whole : bytes_of (state_bits d.n next) ≡ take (state_wire_count d.n) (take handed outputs) =
          sym (take-take (state_wire_count d.n) handed outputs h ∙ take_at (bytes_of (state_bits d.n next)) _ (state_wire_count d.n) front_length) in
          let z = held.allowed.size in
          let r =
          read-front d.n next (take handed outputs) (step-well_formed d.n (rows_of d tables) (state_of run) formed) z.n_least z.n-most whole in
          let m : eqb (get_or outputs (state_wire_count d.n) 0) 1 ≡ closed next =
          ap (λ (x : ℕ). eqb x 1) (get_or_at (bytes_of (state_bits d.n next)) (digit (closed next)) [] 0 (state_wire_count d.n) front_length)
          ∙ digit-bit (closed next) in
          by_reading handed
          ∙ ap₂ (λ (x : Read) (b : Bool). given x.outcome (record { outcome = Ok tt; run = x.run; mark = b }) (turned_back run)) r m

-- ---- one attempt at a state

module _ (d : Dimensions) (tables : Tables) (acc : Accepts d tables) (s : State) (formed : well_formed_state d.n s ≡ true) where
  abbrev run : Run
  run = run_of d.n s

  -- the state after one giant step
  abbrev pub stepped : State
  stepped = step d.n (rows_of d tables) s

  -- where the tables are accepted, the run of a well-formed state passes the checks on a state
  pub fine : outcome (state_checks d run) ≡ Ok tt
  unfolding run_of
  fine = let k = accepted d tables acc in sym (take-state d run (run_of_formed d.n s k.size.n_least k.size.n-most formed) refl)

  module _ (bytes wires : List ℕ) (handed : ℕ) where
    abbrev enough_bytes : Bool
    enough_bytes = leb (input_wires d) (length bytes)

    abbrev enough_wires : Bool
    enough_wires = leb (input_wires d + length (gates_on d)) (length wires)

    judged-back : application_outcome d tables (circuit_words d) run bytes wires ≡ Err Wires
        → applied d tables (circuit_words d) run bytes wires handed ≡ turned_back run Wires
    judged-back e = refused d tables (circuit_words d) run bytes wires handed Wires e

    -- not long enough: 10, whatever the tables are
    pub short-turned : long_enough d (Lent bytes wires handed) ≡ false → applied d tables (circuit_words d) run bytes wires handed ≡ turned_back run Wires
    short-turned e =
        on enough_bytes
        (λ p.
        let room = leb-true (input_wires d) (length bytes) p in
        on enough_wires
        (λ q. few-handed d tables acc run fine bytes wires room (leb-true _ _ q) handed (leb-false _ _ (rw (p, q) at e)))
        (λ q. judged-back (few_wires d tables acc run fine bytes wires room (leb-false _ _ q))))
        (λ p. judged-back (few_bytes d tables acc run fine bytes wires (leb-false _ _ p)))

    -- long enough: the giant step and its mark
    long_steps : long_enough d (Lent bytes wires handed) ≡ true
        → applied d tables (circuit_words d) run bytes wires handed ≡ record { outcome = Ok tt; run = run_of d.n stepped; mark = closed stepped }
    long_steps e =
        let both = and_l (enough_bytes && enough_wires) _ e in
        next-is d tables acc run fine bytes wires (leb-true _ _ (and_l enough_bytes _ both)) (leb-true _ _ (and_r enough_bytes _ both)) handed
        (leb-true _ _ (and_r (enough_bytes && enough_wires) _ e))
        ∙ ap taken (state-back d.n s)
      where
        taken : State → Applied
        taken x = let y = step d.n (rows_of d tables) x in record { outcome = Ok tt; run = run_of d.n y; mark = closed y }

  module _ (again further : Run → List Repeat) where
    -- what comes of it, by whether the attempt is long enough
    abbrev pub comes : Bool → List Repeat
    comes long = cond long (returned d.n stepped ∷ cond (closed stepped) [] (further (run_of d.n stepped))) (again run)

    lent_is : (bytes wires : List ℕ) (handed : ℕ) → comes_of (attempted d tables run (Lent bytes wires handed)) again further
        ≡ comes (long_enough d (Lent bytes wires handed))
    lent_is bytes wires handed =
        on (long_enough d (Lent bytes wires handed))
        (λ e. to (long_steps bytes wires handed e) ∙ ap comes (sym e))
        (λ e. to (short-turned bytes wires handed e) ∙ ap comes (sym e))
      where
        to : {x : Applied} → applied d tables (circuit_words d) run bytes wires handed ≡ x
            → comes_of (applied d tables (circuit_words d) run bytes wires handed) again further ≡ comes_of x again further
        to e = ap (λ (x : Applied). comes_of x again further) e

    -- an attempt that is long enough is a repeat that returns the giant step, the last if that is closed; any other is none and leaves the run as it was
    pub attempt_is : (a : Attempt) → comes_of (attempted d tables run a) again further ≡ comes (long_enough d a)
    attempt_is (Lent bytes wires handed) = lent_is bytes wires handed
    attempt_is (Otherwise r) = refl

  -- ---- what an attempt gives, by itself

  -- long enough, the giant step and its mark
  pub long_gives : (a : Attempt) → long_enough d a ≡ true
      → attempted d tables run a ≡ record { outcome = Ok tt; run = run_of d.n stepped; mark = closed stepped }
  long_gives (Lent bytes wires handed) e = long_steps bytes wires handed e
  long_gives (Otherwise r) e = absurd (true≢false (sym e))

  -- else some refusal, and the run as it was
  pub short-gives : (a : Attempt) → long_enough d a ≡ false → (r : Refusal) × (attempted d tables run a ≡ turned_back run r)
  short-gives (Lent bytes wires handed) e = (Wires, short-turned bytes wires handed e)
  short-gives (Otherwise r) e = (r, refl)
