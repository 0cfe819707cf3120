-- What follows from demand 3, each from its statement alone: a closed state that stays, the run after every repeat, the marks and the
-- answer at the end, and two hosts that see the same. Each part of `Demand3` is used, so that none can be left out or weakened.
use mathlib.Core.Path.{◌≡◌, refl, sym, ap, ap₂, ◌∙◌}
use mathlib.Core.Bool.{Bool, true, false, true≢false}
use mathlib.Core.List.{List, [], ◌∷◌, ◌++◌}
use Prim.Native.Nat.{ℕ, zero, suc, ◌+◌, ◌/◌, ◌≤◌, ◌<◌, min}
use native.Mathlib.Omega.{arith}
use lib.Dec.{leb}
use lib.ListN.{length, get_or, replicate, length-map, length-replicate, get_or-map}
use lib.Seq.{ext_get_or}
use borrow.Author.Tests.{le-leb}
use Rattle.std.specs.Prelude.{None, Ok}
use Rattle.refusals.specs.Checks.{outcome}
use Rattle.words.specs.declared.Row.{Row}
use Rattle.words.proofs.Truth.{on, and_i}
use Rattle.dimensions.specs.declared.Dimensions.{Dimensions}
use Rattle.dimensions.specs.Sizes.{size_checks, state_wire_count, input_wires}
use Rattle.tables.specs.Tables.{Tables}
use Rattle.tables.specs.Rows.{rows_of}
use Rattle.state.specs.declared.Run.{Run}
use Rattle.state.specs.declared.Standing.{Standing}
use Rattle.state.specs.declared.Standing.TheVariants.{Open, Satisfied, Refuted}
use Rattle.state.specs.State.{State, fresh, run_of, if_open}
use Rattle.state.specs.WellFormed.{well_formed_state}
use Rattle.solver.specs.declared.Answer.{Answer}
use Rattle.solver.specs.Step.{step, after}
use Rattle.solver.specs.Entries.{answer_of}
use Rattle.solver.proofs.RunLaws.{run_is_of}
use Rattle.answers.specs.Printed.{answer_text}
use Rattle.gates.specs.Memory.{bytes_of}
use Rattle.two_pass.specs.Evaluation.{filled_wires}
use Rattle.wires.specs.Layout.{state_bits}
use Rattle.wires.specs.Packing.{input_bits}
use Rattle.netlist.specs.Netlist.{gates_on}
use Rattle.netlist.specs.Outputs.{closed, output_bits, outputs_in}
use Rattle.bristol.specs.Writing.{line_at, written_line, requested}
use Rattle.repeats.specs.Repeats.{Attempt, Lent, Repeat, circuit_words, marks, last_run, repeats_ended, long_enough, long_ones}
use Rattle.demand3.proofs.Histories.{repeated, repeated-length, repeated-at}
use Rattle.demand3.specs.Demand3.{rows_by_step, history_of, answer_for, answer_in, circuit_text_of, public_in, Seen, seen, AllAccepts, SamePublic, Demand3}

-- ---- steps, runs and attempts

-- a closed state stays
pub closed-step : (n : ℕ) (rows : List Row) (s : State) → closed s ≡ true → step n rows s ≡ s
unfolding step
closed-step n rows s e = go _ s.standing e
  where
    go : (next : State) (st : Standing) → if_open st false true ≡ true → if_open st next s ≡ s
    go next Open e = absurd (true≢false (sym e))
    go next Satisfied e = refl
    go next Refuted e = refl

-- the run of the last repeat, by that of each
last-by : (run : ℕ → Run) (h : List Repeat) → ((i : ℕ) (none : Repeat) → i < length h → (get_or h i none).run ≡ run (suc i))
    → last_run (run 0) h ≡ run (length h)
unfolding last_run
last-by run [] e = refl
last-by run (r ∷ later) e =
    ap (λ (x : Run). last_run x later) (e 0 r (omega arith)) ∙ last-by (λ i. run (suc i)) later (λ i none b. e (suc i) none (omega arith))

-- an attempt that is just long enough
module _ (d : Dimensions) where
  abbrev zeros : ℕ → List ℕ
  zeros k = replicate k 0

  abbrev pub roomy : Attempt
  roomy = Lent (zeros (input_wires d)) (zeros (input_wires d + length (gates_on d))) (state_wire_count d.n)

  zeros_fit : (k : ℕ) → leb k (length (zeros k)) ≡ true
  zeros_fit k = le-leb k (length (zeros k)) (omega (arith, length-replicate {A = ℕ} k 0))

  roomy_long : long_enough d roomy ≡ true
  roomy_long = and_i (and_i (zeros_fit (input_wires d)) (zeros_fit (input_wires d + length (gates_on d))))
      (le-leb (state_wire_count d.n) (state_wire_count d.n) (omega arith))

  -- k of them after others
  pub roomy-ones : (attempts : List Attempt) (k : ℕ) → k ≤ long_ones d (attempts ++ replicate k roomy)
  unfolding long_ones
  roomy-ones [] zero = omega arith
  roomy-ones [] (suc k) = rw roomy_long (omega (arith, roomy-ones [] k))
  roomy-ones (a ∷ more) k = on (long_enough d a) (λ e. rw e (omega (arith, roomy-ones more k))) (λ e. rw e (roomy-ones more k))

-- ---- public rows

-- what is seen tells the public rows, so that without the premise of the same ones secrecy would not hold
pub seen_public : (d : Dimensions) (tables tables' : ℕ → Tables) (budget : ℕ) (attempts attempts' : List Attempt)
    → seen d tables budget attempts ≡ seen d tables' budget attempts' → SamePublic d tables tables'
seen_public d tables tables' budget attempts attempts' e i = ap (λ (s : Seen). s.4 i) e

-- ---- hosts

module _ (d : Dimensions) where
  -- what a host sees that asks the writer for k lines, with lent bytes for each
  abbrev pub hosted : (ℕ → Tables) → ℕ → List Attempt → (ℕ → List ℕ) → ℕ → Seen
  hosted tables budget attempts lent k = let s = seen d tables budget attempts in (requested d (circuit_words d) lent 0 k, s.1, s.2, s.3, s.4)

  -- room for each line
  abbrev pub Room : (ℕ → List ℕ) → Type 0
  Room lent = (i : ℕ) → length (line_at d (circuit_words d) i) ≤ length (lent i)

module _ (d : Dimensions) (x : Demand3 d) where
  -- ---- every state

  -- a closed state goes through the circuit as it is, and its closing wire is 1
  pub closed_stays : (tables : Tables) (s : State) (wires : List ℕ) → well_formed_state d.n s ≡ true → closed s ≡ true
      → input_wires d + length (circuit_words d) / 3 ≤ length wires
      → outputs_in d (circuit_words d) (filled_wires (circuit_words d) (bytes_of (input_bits d tables s)) wires) ≡ bytes_of (state_bits d.n s ++ (true ∷ []))
  unfolding output_bits
  closed_stays tables s wires formed c h =
      (x.every_state.steps tables s wires formed h).1
      ∙ ap (λ (y : State). bytes_of (state_bits d.n y ++ (closed y ∷ []))) (closed-step d.n (rows_of d tables) s c)
      ∙ ap (λ (b : Bool). bytes_of (state_bits d.n s ++ (b ∷ []))) c

  -- ---- history

  module _ (tables : ℕ → Tables) (acc : AllAccepts d tables) (budget : ℕ) (attempts : List Attempt) where
    abbrev whole : List Repeat
    whole = history_of d tables budget attempts

    abbrev plain : ℕ → State
    plain k = after d.n (rows_by_step d tables) k fresh

    -- after every repeat the run is the plain run's
    pub run-after : (i : ℕ) (none : Repeat) → i < length whole → (get_or whole i none).run ≡ run_of d.n (plain (suc i))
    run-after i none b = ap (λ (r : Repeat). r.run) ((x.history tables acc budget attempts).each i none b)

    -- so is the one that the last repeat returned
    pub last-after : last_run (run_of d.n fresh) whole ≡ run_of d.n (plain (length whole))
    unfolding after
    last-after = last-by (λ i. run_of d.n (plain i)) whole run-after

    -- and its mark says whether it is closed
    pub mark-after : (i : ℕ) → i < length whole → get_or (marks whole) i false ≡ closed (plain (suc i))
    mark-after i b =
        let none : Repeat = record { run = run_of d.n fresh; mark = false } in
        get_or-map (λ (r : Repeat). r.mark) whole i none ∙ ap (λ (r : Repeat). r.mark) ((x.history tables acc budget attempts).each i none b)

    -- every long enough attempt is a repeat until the run closes or the budget is spent, and no later one is
    pub repeats-all : long_ones d attempts ≤ (answer_for d tables budget).count → length whole ≡ long_ones d attempts
    repeats-all h = omega (arith, (x.history tables acc budget attempts).number)

    pub repeats_no_more : (answer_for d tables budget).count ≤ long_ones d attempts → length whole ≡ (answer_for d tables budget).count
    repeats_no_more h = omega (arith, (x.history tables acc budget attempts).number)

    -- no more than the budget
    pub repeats-most : length whole ≤ budget
    unfolding answer_of
    repeats-most = omega (arith, (x.history tables acc budget attempts).number, (run_is_of d.n (rows_by_step d tables) budget fresh).most)

    -- the list itself: the first so many states of the plain run, as repeats return them, and no other
    pub whole_is : whole ≡ repeated d tables fresh (min (long_ones d attempts) (answer_for d tables budget).count)
    whole_is =
        let f = x.history tables acc budget attempts in
        let k = min (long_ones d attempts) (answer_for d tables budget).count in
        let none : Repeat = record { run = run_of d.n fresh; mark = false } in
        ext_get_or none whole (repeated d tables fresh k) (f.number ∙ sym (repeated-length d tables fresh k))
        (λ i b. f.each i none b ∙ sym (repeated-at d tables fresh k i none (omega (arith, f.number))))

    -- ---- end

    -- long enough attempts, as many as the answer counts: the repeats end, all marks are there, and they give the answer
    module _ (a : Answer) (plainly : answer_for d tables budget ≡ a) (long : a.count ≤ long_ones d attempts) where
      pub reached : repeats_ended budget whole ≡ true
      reached =
          let enough : (answer_for d tables budget).count ≤ long_ones d attempts = omega (arith, ap (λ (y : Answer). y.count) plainly) in
          (x.end tables acc budget attempts).1 enough

      -- the repeats of as many long enough attempts as the budgeted run's answer counts, or more, give that answer
      pub answer-is : answer_in d.n whole ≡ a
      answer-is = (x.end tables acc budget attempts).0 reached ∙ plainly

      pub number_is : length whole ≡ a.count
      number_is = sym (length-map whole (λ (r : Repeat). r.mark)) ∙ ap (λ (y : Answer). y.count) answer-is

      pub marks_are : (l : List Bool) → length l ≡ a.count → ((i : ℕ) → i < length l → closed (plain (suc i)) ≡ get_or l i false) → marks whole ≡ l
      marks_are l e h =
          let k : length (marks whole) ≡ length l = length-map whole (λ (r : Repeat). r.mark) ∙ number_is ∙ sym e in
          ext_get_or false (marks whole) l k
          (λ i b. mark-after i (omega (arith, length-map whole (λ (r : Repeat). r.mark))) ∙ h i (omega (arith, k)))

      pub seen-is : (l : List Bool) → marks whole ≡ l → seen d tables budget attempts
          ≡ (circuit_text_of d, a.count, l, answer_text (min d.n 32) a, public_in d tables)
      seen-is l e =
          ap₂ (λ (k : ℕ) (y : Answer). (circuit_text_of d, k, marks whole, answer_text (min d.n 32) y, public_in d tables)) number_is answer-is
          ∙ ap (λ (m : List Bool). (circuit_text_of d, a.count, m, answer_text (min d.n 32) a, public_in d tables)) e

    -- a host can always go on to the end
    pub can_end : (k : ℕ) → (answer_for d tables budget).count ≤ k
        → repeats_ended budget (history_of d tables budget (attempts ++ replicate k (roomy d))) ≡ true
    can_end k h =
        let enough : (answer_for d tables budget).count ≤ long_ones d (attempts ++ replicate k (roomy d)) = omega (arith, roomy-ones d attempts k) in
        (x.end tables acc budget (attempts ++ replicate k (roomy d))).1 enough

  -- ---- two hosts

  module _ (sizes : outcome (size_checks d) ≡ Ok tt) where
    -- it sees the circuit's text, whatever it lends, and is told that there is no more line
    pub host_sees_lem : (tables : ℕ → Tables) (budget : ℕ) (attempts : List Attempt) (lent : ℕ → List ℕ) → Room d lent → (k : ℕ) → 4 + length (gates_on d) ≤ k
        → (hosted d tables budget attempts lent k ≡ seen d tables budget attempts) × (written_line d (circuit_words d) k (lent k) ≡ Ok None)
    host_sees_lem tables budget attempts lent room k h =
        let s = seen d tables budget attempts in
        let t = x.text sizes lent room k h in
        (ap (λ (l : List ℕ). (l, s.1, s.2, s.3, s.4)) t.0, t.1)

    -- hosts of two pairs of tables with the same public rows and one answer see the same
    pub hosts_agree : (tables tables' : ℕ → Tables) → AllAccepts d tables → AllAccepts d tables' → SamePublic d tables tables'
        → (budget : ℕ) (attempts attempts' : List Attempt)
        → (a : Answer) → answer_for d tables budget ≡ a → answer_for d tables' budget ≡ a → a.count ≤ long_ones d attempts → a.count ≤ long_ones d attempts'
        → (lent lent' : ℕ → List ℕ) → Room d lent → Room d lent' → (k k' : ℕ) → 4 + length (gates_on d) ≤ k → 4 + length (gates_on d) ≤ k'
        → hosted d tables budget attempts lent k ≡ hosted d tables' budget attempts' lent' k'
    hosts_agree tables tables' acc acc' same budget attempts attempts' a is is' long long' lent lent' room room' k k' h h' =
        (host_sees_lem tables budget attempts lent room k h).0
        ∙ x.secrecy tables tables' acc acc' same budget attempts attempts' (is ∙ sym is')
        (reached tables acc budget attempts a is long) (reached tables' acc' budget attempts' a is' long')
        ∙ sym (host_sees_lem tables' budget attempts' lent' room' k' h').0
