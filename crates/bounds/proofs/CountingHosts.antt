-- A host's calls by the potential of its run: each leaves the run of the state that its steps lead to, whatever ruling it goes by, and a late condition only
-- adds variables that occur. By induction on the calls.
use mathlib.Core.Path.{◌≡◌, refl, sym, ap, ◌∙◌, subst}
use mathlib.Core.Bool.{Bool, true}
use mathlib.Core.List.{List, [], ◌∷◌, ◌++◌}
use Prim.Native.Nat.{ℕ, ◌+◌, ◌-◌, ◌*◌}
use native.Mathlib.Omega.{arith}
use lib.Dec.{leb}
use lib.ListN.{length, replicate}
use Rattle.std.specs.Prelude.{Ok, Err}
use Rattle.refusals.specs.Numbers.{Outcome}
use Rattle.refusals.specs.Checks.{outcome, given}
use Rattle.refusals.proofs.Outcomes.{outcome-taken}
use Rattle.words.proofs.Truth.{on, and_r}
use Rattle.dimensions.specs.declared.Dimensions.{Dimensions}
use Rattle.dimensions.specs.Sizes.{ceiling}
use Rattle.tables.specs.Tables.{Tables}
use Rattle.tables.specs.Rows.{rows_of}
use Rattle.tables.specs.Acceptance.{table_checks}
use Rattle.tables.proofs.Accepted.{accepted}
use Rattle.state.specs.declared.Run.{Run}
use Rattle.state.specs.declared.Standing.{Standing}
use Rattle.state.specs.declared.Standing.TheVariants.{Open, Satisfied, Refuted}
use Rattle.state.specs.State.{State, run_of, state_of, if_open}
use Rattle.state.specs.WellFormed.{well_formed_state, state_checks}
use Rattle.state.proofs.WellFormedLaws.{formed_i}
use Rattle.state.proofs.HeldRun.{state-back}
use Rattle.scan.specs.Rules.{rule}
use Rattle.solver.specs.Step.{Ruling, always, step_with}
use Rattle.solver.specs.Entries.{Stepped, Ran, run_with, run_from, stepped_with, stepped}
use Rattle.solver.proofs.RunLaws.{run_is_of}
use Rattle.truth.specs.Truth.{occurs}
use Rattle.truth.proofs.RuleLaws.{Applies, ruled}
use Rattle.indexed.specs.Continuing.{Continued, continued_by, not_continued, continued_with, continued}
use Rattle.weighted.specs.Weights.{weighted_rule}
use Rattle.weighted.proofs.Applying.{weighted_applies}
use Rattle.late.specs.declared.Condition.{Condition}
use Rattle.late.specs.Replacement.{late_checks, tables_after}
use Rattle.late.proofs.Rows.{accepted_still, rows_replaced}
use Rattle.late.proofs.Checks.{late_parts, after-taken, after-refused}
use Rattle.repeats.specs.Repeats.{Accepts, Repeat, last_run, repeats, long_enough}
use Rattle.repeats.specs.Repeating.{whole, made, repeated_by, repeated}
use Rattle.repeats.proofs.Applying.{fine}
use Rattle.demand2.proofs.Growth.{Grows, grows_same, grows_on, set_grows}
use Rattle.demand2.proofs.Bound.{Kept}
use Rattle.demand3.proofs.Calls.{call_count, call_run}
use Rattle.late_runs.specs.Host.{room_for}
use Rattle.late_runs.proofs.CircuitCalls.{call_taken, call_refused}
use Rattle.bounds.specs.CountingHost.{HostCall, StepPlain, StepWeighted, ContinuePlain, ContinueWeighted, RepeatCircuit, ReplaceRow, CountingHost}
use Rattle.bounds.specs.CountingHost.{step_count, act_counting, play_counting, call_asks, steps_asked}
use Rattle.bounds.proofs.Lowering.{Lowers, lowers_none, lowers_closed, lowers_on, lowers_step, lowers_run}

-- ---- the tables after a call

module _ (d : Dimensions) where
  -- tables accepted, and no variable less
  abbrev Further : Tables → Tables → Type 0
  Further t t' = Accepts d t' × Grows d.n (rows_of d t) (rows_of d t')

  same_tables : (t : Tables) → Accepts d t → Further t t
  same_tables t acc = (acc, grows_same d.n (rows_of d t))

  replaced-further : (t : Tables) → Accepts d t → (run : Run) (c : Condition) → Further t (tables_after d t run c)
  replaced-further t acc run c = go (outcome (late_checks d t run c)) refl
    where
      go : (o : Outcome) → outcome (late_checks d t run c) ≡ o → Further t (tables_after d t run c)
      go (Err r) e = subst (Further t) (sym (after-refused d t run c r e)) (same_tables t acc)
      go (Ok _) e =
          let w = (late_parts d t run c e).fitting in
          subst (Further t) (sym (after-taken d t run c e)) (
            accepted_still d t c acc w.low,
            subst (Grows d.n (rows_of d t)) (sym (rows_replaced d t c acc w.owned))
                (set_grows d.n (accepted d t acc).size.n-most (rows_of d t) (c.replaced - 1) c.row w.padded),
          )

  act-further : (h : CountingHost) → Accepts d h.tables → (c : HostCall) → Further h.tables (act_counting d h c).tables
  unfolding act_counting
  act-further h acc StepPlain = same_tables h.tables acc
  act-further h acc StepWeighted = same_tables h.tables acc
  act-further h acc (ContinuePlain times) = same_tables h.tables acc
  act-further h acc (ContinueWeighted times) = same_tables h.tables acc
  act-further h acc (RepeatCircuit times gates bytes wires) = same_tables h.tables acc
  act-further h acc (ReplaceRow c) = replaced-further h.tables acc h.run c

  play_grows : (calls : List HostCall) (h : CountingHost) → Accepts d h.tables
      → Grows d.n (rows_of d h.tables) (rows_of d (play_counting d h calls).tables)
  unfolding play_counting
  play_grows [] h acc = grows_same d.n (rows_of d h.tables)
  play_grows (c ∷ more) h acc =
      let next = act-further h acc c in
      grows_on d.n (rows_of d h.tables) (rows_of d (act_counting d h c).tables) _ next.1 (play_grows more (act_counting d h c) next.0)

-- ---- a call, at a state of which all variables that occur pass

module _ (d : Dimensions) (p : ℕ → Bool) (t : Tables) (acc : Accepts d t) (s : State) (o : Kept d.n p s)
    (may : (v : ℕ) → occurs d.n (rows_of d t) v ≡ true → p v ≡ true) where
  abbrev run : Run
  run = run_of d.n s

  -- a call that asks for so many steps leaves this run and says this count
  record Leaves (asked : ℕ) (left : Run) (said : ℕ) : Type 0 where
    state : State
    is : left ≡ run_of d.n state
    lowers : Lowers d.n p s state asked said

  formed : well_formed_state d.n s ≡ true
  formed = formed_i d.n s o.0

  passes : outcome (table_checks d t ++ state_checks d run) ≡ Ok tt
  passes = outcome-taken (table_checks d t) (state_checks d run) acc ∙ fine d t acc s formed

  module _ (ruling : Ruling) (applies : Applies ruling) where
    step_leaves : Leaves 1 (stepped_with ruling d t run).run (step_count run)
    unfolding stepped_with run_of
    step_leaves = record {
      state = step_with ruling d.n (rows_of d t) s;
      is =
          ap (λ (x : Outcome). (given x (next (state_of run)) (λ r. record { outcome = Err r; run = run })).run) passes
          ∙ ap (λ (x : State). (next x).run) (state-back d.n s);
      lowers = lowers_step d.n p (rows_of d t) may ruling applies s o;
    }
      where
        next : State → Stepped
        next x = record { outcome = Ok tt; run = run_of d.n (step_with ruling d.n (rows_of d t) x) }

    abbrev ran : ℕ → State → Ran
    ran times x = run_with ruling d.n (always (rows_of d t)) times x

    continues : (times : ℕ) → continued_with ruling d t times run ≡ continued_by d.n (ran times s)
    unfolding continued_with
    continues times =
        ap (λ (x : Outcome). given x (continued_by d.n (ran times (state_of run))) (not_continued run)) passes
        ∙ ap (λ (x : State). continued_by d.n (ran times x)) (state-back d.n s)

    continue_leaves : (times : ℕ) → let c = continued_with ruling d t times run in Leaves times c.run c.steps
    continue_leaves times = subst (λ (c : Continued). Leaves times c.run c.steps) (sym (continues times)) (record {
      state = (ran times s).final;
      is = refl;
      lowers = lowers_run d.n p (rows_of d t) may ruling applies times s o;
    })

  -- ---- the circuit repeated

  module _ (times : ℕ) (gates bytes wires : List ℕ) where
    abbrev runs : Ran
    runs = run_from d.n (always (rows_of d t)) times s

    -- the repeats of an open run
    abbrev asked : List Repeat
    asked = repeats d (λ i. t) times run (replicate times (whole d bytes wires))

    open_leaves : long_enough d (whole d bytes wires) ≡ true → s.standing ≡ Open
        → let r = repeated_by run (made d t times bytes wires run) in Leaves times r.run r.repeats
    unfolding run_from
    open_leaves long e = record {
      state = runs.final;
      is = call_run d t acc times bytes wires long s formed e ∙ ap (run_of d.n) (sym (run_is_of d.n (always (rows_of d t)) times s).final-after);
      lowers = subst (Lowers d.n p s runs.final times) (sym (call_count d t acc times bytes wires long s formed e))
          (lowers_run d.n p (rows_of d t) may rule ruled times s o);
    }

    closed_leaves : (s.standing ≡ Open → ⊥) → (made d t times bytes wires run ≡ [])
        → let r = repeated_by run (made d t times bytes wires run) in Leaves times r.run r.repeats
    unfolding run_of last_run
    closed_leaves e none =
        subst (λ (h : List Repeat). let r = repeated_by run h in Leaves times r.run r.repeats) (sym none)
        (record { state = s; is = refl; lowers = lowers_closed d.n p s o e times })

    made_leaves : long_enough d (whole d bytes wires) ≡ true → let r = repeated_by run (made d t times bytes wires run) in Leaves times r.run r.repeats
    unfolding made run_of
    made_leaves long = go s.standing refl
      where
        go : (st : Standing) → s.standing ≡ st → let r = repeated_by run (made d t times bytes wires run) in Leaves times r.run r.repeats
        go Open e = open_leaves long e
        go Satisfied e = closed_leaves (λ h. let z : ◌≡◌ {A = ℕ} 0 1 = cc in omega arith) (ap (λ (x : Standing). if_open x asked []) e)
        go Refuted e = closed_leaves (λ h. let z : ◌≡◌ {A = ℕ} 0 1 = cc in omega arith) (ap (λ (x : Standing). if_open x asked []) e)

    repeat_leaves : let r = repeated d t times gates bytes wires run in Leaves (call_asks d (RepeatCircuit times gates bytes wires)) r.run r.repeats
    unfolding repeated
    repeat_leaves =
        on (room_for d gates bytes wires)
        (λ e. rw (e, call_taken d t acc s formed times gates bytes wires e) (made_leaves (and_r (leb (3 * ceiling d) (length gates)) _ e)))
        (λ e. rw (e, (call_refused d t acc s formed times gates bytes wires e).1) (record { state = s; is = refl; lowers = lowers_none d.n p s o }))

  -- ---- any call

  act_leaves : (count : ℕ) (c : HostCall) → let h = act_counting d (record { tables = t; run = run; count = count }) c in
      (said : ℕ) × (h.count ≡ count + said) × Leaves (call_asks d c) h.run said
  unfolding act_counting stepped continued
  act_leaves count StepPlain = (_, refl, step_leaves rule ruled)
  act_leaves count StepWeighted = (_, refl, step_leaves weighted_rule weighted_applies)
  act_leaves count (ContinuePlain times) = (_, refl, continue_leaves rule ruled times)
  act_leaves count (ContinueWeighted times) = (_, refl, continue_leaves weighted_rule weighted_applies times)
  act_leaves count (RepeatCircuit times gates bytes wires) = (_, refl, repeat_leaves times gates bytes wires)
  act_leaves count (ReplaceRow c) = (0, omega arith, record { state = s; is = refl; lowers = lowers_none d.n p s o })

-- ---- one call after the other

module _ (d : Dimensions) where
  abbrev host : Tables → State → ℕ → CountingHost
  host t s count = record { tables = t; run = run_of d.n s; count = count }

  -- after calls that ask for so many steps
  pub record Ends (p : ℕ → Bool) (s : State) (count asked : ℕ) (h : CountingHost) : Type 0 where
    pub state : State
    pub is : h.run ≡ run_of d.n state
    pub said : ℕ
    pub counts : h.count ≡ count + said
    pub lowers : Lowers d.n p s state asked said

  -- the calls that are left lower what is left
  pub play_lowers : (p : ℕ → Bool) (calls : List HostCall) (t : Tables) → Accepts d t → (s : State) → Kept d.n p s → (count : ℕ)
      → ((v : ℕ) → occurs d.n (rows_of d (play_counting d (host t s count) calls).tables) v ≡ true → p v ≡ true)
      → Ends p s count (steps_asked d calls) (play_counting d (host t s count) calls)
  unfolding play_counting steps_asked
  play_lowers p [] t acc s o count may =
      record { state = s; is = refl; said = 0; counts = omega arith; lowers = lowers_none d.n p s o }
  play_lowers p (c ∷ more) t acc s o count may =
      let h = act_counting d (host t s count) c in
      let further = act-further d (host t s count) acc c in
      let first = act_leaves d p t acc s o (λ v e. may v ((play_grows d (c ∷ more) (host t s count) acc).occurs_still v e)) count c in
      let next : h ≡ host h.tables first.2.state h.count =
      ap (λ (r : Run). record { tables = h.tables; run = r; count = h.count }) first.2.is in
      let rest = play_lowers p more h.tables further.0 first.2.state first.2.lowers.kept h.count
      (λ v e. may v (subst (λ (x : CountingHost). occurs d.n (rows_of d (play_counting d x more).tables) v ≡ true) (sym next) e)) in
      record {
        state = rest.state;
        is = ap (λ (x : CountingHost). (play_counting d x more).run) next ∙ rest.is;
        said = first.0 + rest.said;
        counts = ap (λ (x : CountingHost). (play_counting d x more).count) next ∙ rest.counts ∙ omega (arith, first.1);
        lowers = lowers_on d.n p first.2.lowers rest.lowers;
      }
