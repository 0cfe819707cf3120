-- A call of `repeat` among a host's turns: with accepted tables and a well-formed run it is its lent buffers alone that decide whether it is taken. Refused, it
-- is as if it had not been made. And what the host counts is the number of its repeats. From the order of the checks, and by induction on the turns.
use mathlib.Core.Path.{◌≡◌, refl, sym, ap, ◌∙◌}
use mathlib.Core.Bool.{Bool, true, false, ◌||◌, cond, true≢false}
use mathlib.Core.List.{List, [], ◌∷◌, ◌++◌}
use Prim.Native.Nat.{ℕ, zero, suc, ◌+◌, ◌-◌, ◌*◌, min}
use native.Mathlib.Omega.{arith}
use lib.Dec.{ltb, leb}
use lib.ListN.{length, length-append}
use borrow.Author.Tests.{lt-ltb, le-ltb, le-leb, leb-true, leb-false}
use Rattle.std.specs.Prelude.{Ok, Err}
use Rattle.refusals.specs.Numbers.{Outcome}
use Rattle.refusals.specs.Checks.{given}
use Rattle.refusals.specs.declared.Refusal.{Refusal}
use Rattle.refusals.specs.declared.Refusal.TheVariants.{GateBuffer, Wires}
use Rattle.words.proofs.Truth.{on, and_l, and_r}
use Rattle.dimensions.specs.declared.Dimensions.{Dimensions}
use Rattle.dimensions.specs.Sizes.{ceiling, state_wire_count, input_wires}
use Rattle.tables.specs.Tables.{Tables}
use Rattle.state.specs.declared.Run.{Run}
use Rattle.state.specs.State.{State, run_of, state_of}
use Rattle.state.specs.WellFormed.{well_formed_state}
use Rattle.netlist.specs.Netlist.{gates_on}
use Rattle.netlist.specs.Outputs.{closed}
use Rattle.repeats.specs.Repeats.{Accepts, Repeat, last_run, attempted, long_enough}
use Rattle.repeats.specs.Repeating.{whole, made, repeated_by, refused_with, allowed, repeated}
use Rattle.repeats.proofs.Applying.{fine}
use Rattle.repeats.proofs.RepeatChecks.{refuse_words, refuse_room, state_decides}
use Rattle.late.specs.Replacement.{tables_after}
use Rattle.late_runs.specs.Host.{Turn, Try, Call, Renew, repeats_by, count_by, room_for}

-- ---- whether a call is taken

module _ (d : Dimensions) (tables : Tables) (acc : Accepts d tables) (s : State) (formed : well_formed_state d.n s ≡ true) (times : ℕ)
    (gates bytes wires : List ℕ) where
  abbrev run : Run
  run = run_of d.n s

  abbrev says : Outcome
  says = allowed d tables times gates bytes wires run

  abbrev enough_words : Bool
  enough_words = leb (3 * ceiling d) (length gates)

  abbrev enough_bytes : Bool
  enough_bytes = leb (input_wires d) (length bytes)

  abbrev enough_wires : Bool
  enough_wires = leb (input_wires d + length (gates_on d)) (length wires)

  -- all outputs are handed to the read-back
  all-handed : leb (state_wire_count d.n) (state_wire_count d.n + 1) ≡ true
  all-handed = le-leb (state_wire_count d.n) (state_wire_count d.n + 1) (omega arith)

  abbrev short : Bool
  short = ltb (length bytes) (input_wires d) || ltb (length wires) (input_wires d + length (gates_on d))

  no_room : long_enough d (whole d bytes wires) ≡ false → short ≡ true
  no_room e =
      on enough_bytes
      (λ p.
      on enough_wires
      (λ q. absurd (true≢false (sym all-handed ∙ (rw (p, q) at e))))
      (λ q. let h = leb-false (input_wires d + length (gates_on d)) (length wires) q in
      rw (le-ltb (length bytes) (input_wires d) (leb-true _ _ p)) (lt-ltb (length wires) (input_wires d + length (gates_on d)) h)))
      (λ p. let h = leb-false (input_wires d) (length bytes) p in rw (lt-ltb (length bytes) (input_wires d) h))

  room : long_enough d (whole d bytes wires) ≡ true → short ≡ false
  room e =
      let both = and_l _ (leb (state_wire_count d.n) (state_wire_count d.n + 1)) e in
      rw (
        le-ltb (length bytes) (input_wires d) (leb-true _ _ (and_l enough_bytes enough_wires both)),
        le-ltb (length wires) (input_wires d + length (gates_on d)) (leb-true _ _ (and_r enough_bytes enough_wires both)),
      )

  -- a call with room for gate words, bytes and wires is taken
  pub call_taken : room_for d gates bytes wires ≡ true → says ≡ Ok tt
  unfolding allowed
  call_taken e =
      sym (state_decides d tables (length gates) (length bytes) (length wires) run acc
      (leb-true (3 * ceiling d) (length gates) (and_l enough_words _ e)) (room (and_r enough_words _ e)))
      ∙ fine d tables acc s formed

  -- any other is refused, by 7 or 10
  pub call_refused : room_for d gates bytes wires ≡ false → (r : Refusal) × (says ≡ Err r)
  unfolding allowed
  call_refused e =
      on enough_words
      (λ p. (
        Wires,
        sym (refuse_room d tables (length gates) (length bytes) (length wires) run acc (leb-true (3 * ceiling d) (length gates) p)
            (no_room (rw p at e))),
      ))
      (λ p. (GateBuffer, sym (refuse_words d tables (length gates) (length bytes) (length wires) run acc (leb-false (3 * ceiling d) (length gates) p))))

-- ---- what comes of it

-- these repeats, and the later turns where the last run is open
abbrev pub further : Dimensions → Tables → List Turn → ℕ → Run → List Repeat → List Repeat
further d tables more budget run h =
    h ++ cond (closed (state_of (last_run run h))) [] (repeats_by d tables (budget - length h) (last_run run h) more)

module _ (d : Dimensions) (tables : Tables) (budget : ℕ) (run : Run) (times : ℕ) (gates bytes wires : List ℕ) (more : List Turn) where
  -- the call with so many times as are left
  abbrev asked : List Repeat
  asked = made d tables (min times budget) bytes wires run

  abbrev met : Outcome
  met = allowed d tables (min times budget) gates bytes wires run

  abbrev by : Outcome → List Repeat
  by o =
      let r = given o (repeated_by run asked) (refused_with run) in
      given o asked (λ refusal. []) ++ cond r.mark [] (repeats_by d tables (budget - r.repeats) r.run more)

  -- a call that is taken
  pub taken-goes : met ≡ Ok tt → repeats_by d tables budget run (Call times gates bytes wires ∷ more) ≡ further d tables more budget run asked
  unfolding repeats_by repeated
  taken-goes e = ap by e

  -- a refused one is as if it had not been made
  pub refused-goes : (r : Refusal) → met ≡ Err r
      → repeats_by d tables budget run (Call times gates bytes wires ∷ more) ≡ repeats_by d tables budget run more
  unfolding repeats_by repeated
  refused-goes r e = ap by e ∙ (let z : budget - 0 ≡ budget = omega arith in ap (λ (k : ℕ). repeats_by d tables k run more) z)

-- ---- what the host counts

module _ (d : Dimensions) where
  try_counts : (o : Outcome) (mark : Bool) (r : Repeat) (further again : List Repeat) (k j : ℕ) → k ≡ length further → j ≡ length again
      → given o (suc (cond mark 0 k)) (λ refusal. j) ≡ length (given o (r ∷ cond mark [] further) (λ refusal. again))
  try_counts (Ok _) true r further again k j p q = refl
  try_counts (Ok _) false r further again k j p q = ap suc p
  try_counts (Err x) mark r further again k j p q = q

  call_counts : (h : List Repeat) (mark : Bool) (later : List Repeat) (k : ℕ) → k ≡ length later → length h + cond mark 0 k ≡ length (h ++ cond mark [] later)
  call_counts h true later k p = omega (arith, length-append h [])
  call_counts h false later k p = omega (arith, p, length-append h later)

  -- what a call gives, by whether it is taken
  call_says : (tables : Tables) (budget : ℕ) (run : Run) (more : List Turn) (h : List Repeat) (o : Outcome)
      → count_by d tables (budget - length h) (last_run run h) more ≡ length (repeats_by d tables (budget - length h) (last_run run h) more)
      → count_by d tables (budget - 0) run more ≡ length (repeats_by d tables (budget - 0) run more)
      → (let r = given o (repeated_by run h) (refused_with run) in
      r.repeats + cond r.mark 0 (count_by d tables (budget - r.repeats) r.run more)
      ≡ length (given o h (λ refusal. []) ++ cond r.mark [] (repeats_by d tables (budget - r.repeats) r.run more)))
  call_says tables budget run more h (Ok _) p q = call_counts h (closed (state_of (last_run run h))) _ _ p
  call_says tables budget run more h (Err r) p q = omega (arith, q)

  -- the numbers of repeats, added up, are how many repeats there are
  pub counts-add-up : (turns : List Turn) (tables : Tables) (budget : ℕ) (run : Run)
      → count_by d tables budget run turns ≡ length (repeats_by d tables budget run turns)
  unfolding repeats_by count_by repeated
  counts-add-up [] tables budget run = refl
  counts-add-up (Renew c ∷ more) tables budget run = counts-add-up more (tables_after d tables run c) budget run
  counts-add-up (Call times gates bytes wires ∷ more) tables budget run =
      let h = made d tables (min times budget) bytes wires run in
      call_says tables budget run more h (allowed d tables (min times budget) gates bytes wires run)
      (counts-add-up more tables (budget - length h) (last_run run h)) (counts-add-up more tables (budget - 0) run)
  counts-add-up (Try a ∷ more) tables zero run = refl
  counts-add-up (Try a ∷ more) tables (suc rest) run =
      let r = attempted d tables run a in
      try_counts r.outcome r.mark (record { run = r.run; mark = r.mark })
      (repeats_by d tables rest r.run more) (repeats_by d tables (suc rest) r.run more) _ _
      (counts-add-up more tables rest r.run) (counts-add-up more tables (suc rest) r.run)
