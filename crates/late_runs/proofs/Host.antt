-- A host's run is the run over its late conditions: while the run is open each call of `replace` leaves the tables with its condition, and once it is closed
-- neither tables nor run change. By induction on the calls.
use mathlib.Core.Path.{◌≡◌, refl, sym, ap, ap₂, ◌∙◌, fun_ext}
use mathlib.Core.Bool.{Bool, true, false, not, ◌&&◌, cond, true≢false}
use mathlib.Core.List.{List, [], ◌∷◌, ◌++◌}
use Prim.Native.Nat.{ℕ, zero, suc, ◌-◌, ◌^◌, ◌≤◌, ◌<◌}
use native.Mathlib.Omega.{arith}
use Rattle.std.specs.Prelude.{Ok, Err}
use Rattle.refusals.specs.Numbers.{Outcome}
use Rattle.refusals.specs.Checks.{outcome, given}
use Rattle.refusals.specs.declared.Refusal.TheVariants.{RowBit, NotPadding, Closed}
use Rattle.refusals.proofs.Outcomes.{outcome-taken}
use Rattle.words.specs.declared.Row.{Row}
use Rattle.words.specs.Sets.{bit}
use Rattle.words.proofs.Truth.{on}
use Rattle.dimensions.specs.declared.Dimensions.{Dimensions}
use Rattle.tables.specs.Tables.{Tables}
use Rattle.tables.specs.Rows.{rows_of}
use Rattle.tables.specs.Acceptance.{low_row, table_checks}
use Rattle.state.specs.declared.Run.{Run}
use Rattle.state.specs.declared.Standing.{Standing}
use Rattle.state.specs.declared.Standing.TheVariants.{Open, Satisfied, Refuted}
use Rattle.state.specs.State.{State, fresh, run_of, state_of, if_open}
use Rattle.state.specs.WellFormed.{well_formed_state, state_checks}
use Rattle.state.proofs.HeldRun.{state-back}
use Rattle.solver.specs.Step.{later, step, after}
use Rattle.solver.specs.Entries.{Stepped, run_from, answer_of, stepped}
use Rattle.truth.specs.Truth.{all_true}
use Rattle.solver.proofs.StepLaws.{step-well_formed, fresh-well_formed}
use Rattle.solver.proofs.RunLaws.{run_is_of}
use Rattle.verdicts.specs.Verdicts.{verdict_of}
use Rattle.netlist.specs.Outputs.{closed}
use Rattle.late.specs.declared.Condition.{Condition}
use Rattle.late.specs.Replacement.{owns, padding_at, condition_checks, replaced_in, tables_after}
use Rattle.repeats.specs.Repeats.{Accepts}
use Rattle.repeats.proofs.Applying.{fine}
use Rattle.demand3.proofs.Histories.{closed_open, steps_open, steps_closed}
use Rattle.demand3.proofs.Consequences.{closed-step}
use Rattle.late_runs.specs.Schedule.{Dated, tables_with, tables_at, rows_at}
use Rattle.late_runs.specs.Host.{dated, Action, Step, Replace, Host, act, play, started, steps_of, conditions_of}
use Rattle.late_runs.proofs.Schedule.{not-due, due-first, due-later, with-accepted}
use Rattle.late_runs.proofs.Demands.{demand2_late}

-- ---- one call, at a well-formed state

module _ (d : Dimensions) (tables : Tables) (acc : Accepts d tables) (s : State) (formed : well_formed_state d.n s ≡ true) where
  abbrev run : Run
  run = run_of d.n s

  -- a step is taken
  pub step_leaves : (stepped d tables run).run ≡ run_of d.n (step d.n (rows_of d tables) s)
  unfolding stepped
  step_leaves =
      ap (λ (o : Outcome). (given o next (λ r. record { outcome = Err r; run = run })).run)
      (outcome-taken (table_checks d tables) (state_checks d run) acc ∙ fine d tables acc s formed)
      ∙ ap (λ (x : State). run_of d.n (step d.n (rows_of d tables) x)) (state-back d.n s)
    where
      next : Stepped
      next = record { outcome = Ok tt; run = run_of d.n (step d.n (rows_of d tables) (state_of run)) }

  -- only 15, 16 and the new row's 3 are left to judge
  by_condition : (c : Condition) → tables_after d tables run c ≡ given (outcome (condition_checks d tables run c)) (replaced_in d tables c) (λ r. tables)
  unfolding tables_after
  by_condition c =
      ap (λ (o : Outcome). given o (replaced_in d tables c) (λ r. tables))
      (outcome-taken (table_checks d tables) (state_checks d run ++ condition_checks d tables run c) acc
      ∙ outcome-taken (state_checks d run) (condition_checks d tables run c) (fine d tables acc s formed))

  module _ (c : Condition) where
    -- what 15, 16 and 3 lead to
    abbrev judged : Bool → Bool → Bool → Tables
    judged padding closing low =
        given (cond (not padding) (Err NotPadding) (cond closing (Err Closed) (cond (not low) (Err RowBit) (Ok tt))))
        (replaced_in d tables c) (λ r. tables)

    at_open : (padding low : Bool) → judged padding false low ≡ cond (padding && low) (replaced_in d tables c) tables
    at_open true true = refl
    at_open true false = refl
    at_open false low = refl

    at-closed : (padding low : Bool) → judged padding true low ≡ tables
    at-closed true low = refl
    at-closed false low = refl

    abbrev padded : Bool
    padded = owns d c.station c.replaced && padding_at d tables c.replaced

    -- an open run's tables get the condition
    pub open_replaces : closed s ≡ false → tables_after d tables run c ≡ tables_with d tables c
    unfolding tables_with run_of
    open_replaces e = by_condition c ∙ ap (λ (b : Bool). judged padded b (low_row d.n c.row)) e ∙ at_open padded (low_row d.n c.row)

    -- a closed run's tables stay
    pub closed_keeps : closed s ≡ true → tables_after d tables run c ≡ tables
    unfolding run_of
    closed_keeps e = by_condition c ∙ ap (λ (b : Bool). judged padded b (low_row d.n c.row)) e ∙ at-closed padded (low_row d.n c.row)

-- ---- a closed state stays

module _ (n : ℕ) where
  closed_after : (k : ℕ) (rows : ℕ → List Row) (s : State) → closed s ≡ true → after n rows k s ≡ s
  unfolding after
  closed_after zero rows s e = refl
  closed_after (suc k) rows s e = ap (after n (later rows) k) (closed-step n (rows 0) s e) ∙ closed_after k (later rows) s e

  open_after : (k : ℕ) (rows : ℕ → List Row) (s : State) → closed (after n rows k s) ≡ false → closed s ≡ false
  open_after k rows s e = on (closed s) (λ h. absurd (true≢false (sym h ∙ ap closed (sym (closed_after k rows s h)) ∙ e))) (λ h. h)

  -- the budgeted run's last state is the one after the whole budget
  final-after : (k : ℕ) (rows : ℕ → List Row) (s : State) → (run_from n rows k s).final ≡ after n rows k s
  unfolding after
  final-after zero rows s =
      let none : (run_from n rows 0 s).steps ≡ 0 = omega (arith, (run_is_of n rows 0 s).most) in
      (run_is_of n rows 0 s).final-after ∙ ap (λ (j : ℕ). after n rows j s) none
  final-after (suc k) rows s =
      on (closed s)
      (λ e. (run_is_of n rows (suc k) s).final-after ∙ closed_after (run_from n rows (suc k) s).steps rows s e ∙ sym (closed_after (suc k) rows s e))
      (λ e.
      (run_is_of n rows (suc k) s).final-after
      ∙ ap (λ (j : ℕ). after n rows j s) (steps_open n rows k s (closed_open s.standing e))
      ∙ sym (run_is_of n (later rows) k (step n (rows 0) s)).final-after
      ∙ final-after k (later rows) (step n (rows 0) s))

-- ---- the tables that a step reads

module _ (d : Dimensions) where
  -- conditions after more steps are not there yet
  not_yet : (more : List Action) (j k : ℕ) → j < k → (t : Tables) → tables_at d t (conditions_of k more) j ≡ t
  unfolding conditions_of tables_at
  not_yet [] j k b t = refl
  not_yet (Step ∷ more) j k b t = not_yet more j (suc k) (omega arith) t
  not_yet (Replace c ∷ more) j k b t = rw (not-due (dated k c) j b)

  -- one step more on both sides
  shifted : (more : List Action) (k j : ℕ) (t : Tables) → tables_at d t (conditions_of (suc k) more) (suc j) ≡ tables_at d t (conditions_of k more) j
  unfolding conditions_of tables_at
  shifted [] k j t = refl
  shifted (Step ∷ more) k j t = shifted more (suc k) j t
  shifted (Replace c ∷ more) k j t = ap₂ (λ (b : Bool) (x : Tables). cond b x t) (due-later c k j) (shifted more k j (tables_with d t c))

  -- a condition before the first step is there at once
  pub at_once : (c : Condition) (more : List Dated) (t : Tables) → tables_at d (tables_with d t c) more ≡ tables_at d t (dated 0 c ∷ more)
  unfolding tables_at
  at_once c more t = fun_ext (λ k. ap (λ (b : Bool). cond b (tables_at d (tables_with d t c) more k) t) (sym (due-first c k)))

  abbrev conditions : List Action → List Dated
  conditions = conditions_of 0

  -- the state after the steps among the calls
  abbrev state_after : Tables → List Action → State → State
  state_after t more s = after d.n (rows_at d t (conditions more)) (steps_of more) s

  -- with its first step taken
  state_next : (t : Tables) (more : List Action) (s : State) → state_after t (Step ∷ more) s ≡ state_after t more (step d.n (rows_of d t) s)
  unfolding after steps_of conditions_of
  state_next t more s =
      ap₂ (λ (rows : ℕ → List Row) (first : Tables). after d.n rows (steps_of more) (step d.n (rows_of d first) s))
      (fun_ext (λ k. ap (rows_of d) (shifted more 0 k t))) (not_yet more 0 1 (omega arith) t)

  -- with its first condition there
  state_with : (t : Tables) (c : Condition) (more : List Action) (s : State) → state_after t (Replace c ∷ more) s ≡ state_after (tables_with d t c) more s
  unfolding steps_of conditions_of
  state_with t c more s = ap (λ (at : ℕ → Tables). after d.n (λ k. rows_of d (at k)) (steps_of more) s) (sym (at_once c (conditions more) t))

  -- ---- calls one after the other

  abbrev host : Tables → State → Host
  host t s = record { tables = t; run = run_of d.n s }

  module _ (t : Tables) (acc : Accepts d t) (s : State) (formed : well_formed_state d.n s ≡ true) where
    after-step : act d (host t s) Step ≡ host t (step d.n (rows_of d t) s)
    unfolding act
    after-step = ap (λ (r : Run). record { tables = t; run = r }) (step_leaves d t acc s formed)

    after-closed : closed s ≡ true → (a : Action) → act d (host t s) a ≡ host t s
    unfolding act
    after-closed e Step = after-step ∙ ap (host t) (closed-step d.n (rows_of d t) s e)
    after-closed e (Replace c) = ap (λ (x : Tables). record { tables = x; run = run_of d.n s }) (closed_keeps d t acc s formed c e)

    after_open : closed s ≡ false → (c : Condition) → act d (host t s) (Replace c) ≡ host (tables_with d t c) s
    unfolding act
    after_open e c = ap (λ (x : Tables). record { tables = x; run = run_of d.n s }) (open_replaces d t acc s formed c e)

    -- on a closed run no call changes anything
    pub host_stays : closed s ≡ true → (more : List Action) → play d (host t s) more ≡ host t s
    unfolding play
    host_stays e [] = refl
    host_stays e (a ∷ more) = ap (λ (h : Host). play d h more) (after-closed e a) ∙ host_stays e more

  -- the run is that after as many steps
  run-follows : (more : List Action) (t : Tables) → Accepts d t → (s : State) → well_formed_state d.n s ≡ true
      → (play d (host t s) more).run ≡ run_of d.n (state_after t more s)
  unfolding play steps_of after
  run-follows [] t acc s w = refl
  run-follows (Step ∷ more) t acc s w =
      let next = step d.n (rows_of d t) s in
      ap (λ (h : Host). (play d h more).run) (after-step t acc s w)
      ∙ run-follows more t acc next (step-well_formed d.n (rows_of d t) s w)
      ∙ ap (run_of d.n) (sym (state_next t more s))
  run-follows (Replace c ∷ more) t acc s w =
      on (closed s)
      (λ e.
      ap (λ (h : Host). h.run) (host_stays t acc s w e (Replace c ∷ more))
      ∙ ap (run_of d.n) (sym (closed_after d.n (steps_of more) (rows_at d t (conditions (Replace c ∷ more))) s e)))
      (λ e.
      ap (λ (h : Host). (play d h more).run) (after_open t acc s w e c)
      ∙ run-follows more (tables_with d t c) (with-accepted d t acc c) s w
      ∙ ap (run_of d.n) (sym (state_with t c more s)))

  -- while it is open, the tables are those of the next step
  open_tables : (more : List Action) (t : Tables) → Accepts d t → (s : State) → well_formed_state d.n s ≡ true
      → closed (state_after t more s) ≡ false → (play d (host t s) more).tables ≡ tables_at d t (conditions more) (steps_of more)
  unfolding play steps_of conditions_of tables_at
  open_tables [] t acc s w e = refl
  open_tables (Step ∷ more) t acc s w e =
      let next = step d.n (rows_of d t) s in
      ap (λ (h : Host). (play d h more).tables) (after-step t acc s w)
      ∙ open_tables more t acc next (step-well_formed d.n (rows_of d t) s w) (ap closed (sym (state_next t more s)) ∙ e)
      ∙ sym (shifted more 0 (steps_of more) t)
  open_tables (Replace c ∷ more) t acc s w e =
      ap (λ (h : Host). (play d h more).tables) (after_open t acc s w (open_after d.n (steps_of more) (rows_at d t (conditions (Replace c ∷ more))) s e) c)
      ∙ open_tables more (tables_with d t c) (with-accepted d t acc c) s w (ap closed (sym (state_with t c more s)) ∙ e)
      ∙ ap (λ (at : ℕ → Tables). at (steps_of more)) (at_once c (conditions more) t)

  -- how many steps it took to close
  abbrev counted : Tables → List Action → State → ℕ
  counted t more s = (run_from d.n (rows_at d t (conditions more)) (steps_of more) s).steps

  count_next : (t : Tables) (more : List Action) (s : State) → closed s ≡ false → counted t (Step ∷ more) s ≡ suc (counted t more (step d.n (rows_of d t) s))
  unfolding steps_of conditions_of
  count_next t more s e =
      steps_open d.n (rows_at d t (conditions_of 1 more)) (steps_of more) s (closed_open s.standing e)
      ∙ ap₂ (λ (rows : ℕ → List Row) (first : Tables). suc (run_from d.n rows (steps_of more) (step d.n (rows_of d first) s)).steps)
      (fun_ext (λ k. ap (rows_of d) (shifted more 0 k t))) (not_yet more 0 1 (omega arith) t)

  count_with : (t : Tables) (c : Condition) (more : List Action) (s : State) → counted t (Replace c ∷ more) s ≡ counted (tables_with d t c) more s
  unfolding steps_of conditions_of
  count_with t c more s = ap (λ (at : ℕ → Tables). (run_from d.n (λ k. rows_of d (at k)) (steps_of more) s).steps) (sym (at_once c (conditions more) t))

  -- a run that closes takes a step
  some-step : (t : Tables) (more : List Action) (s : State) → closed s ≡ false → closed (state_after t more s) ≡ true → counted t more s ≡ 0 → ⊥
  unfolding after
  some-step t more s o e z =
      let rows = rows_at d t (conditions more) in
      let final = sym (final-after d.n (steps_of more) rows s) ∙ (run_is_of d.n rows (steps_of more) s).final-after ∙ ap (λ (k : ℕ). after d.n rows k s) z in
      true≢false (sym e ∙ ap closed final ∙ o)

  -- once it is closed, they are those that its last step read
  closed-tables : (more : List Action) (t : Tables) → Accepts d t → (s : State) → well_formed_state d.n s ≡ true → closed s ≡ false
      → closed (state_after t more s) ≡ true → (play d (host t s) more).tables ≡ tables_at d t (conditions more) (counted t more s - 1)
  unfolding play after steps_of conditions_of
  closed-tables [] t acc s w o e = absurd (true≢false (sym e ∙ o))
  closed-tables (Step ∷ more) t acc s w o e =
      ap (λ (h : Host). (play d h more).tables) (after-step t acc s w)
      ∙ on (closed next)
      (λ h.
      ap (λ (x : Host). x.tables) (host_stays t acc next formed h more)
      ∙ sym (ap (λ (k : ℕ). tables_at d t (conditions_of 1 more) (k - 1))
      (count_next t more s o ∙ ap suc (steps_closed d.n (rows_at d t (conditions more)) (steps_of more) next h))
      ∙ not_yet more 0 1 (omega arith) t))
      (λ h.
      closed-tables more t acc next formed h closes
      ∙ go (counted t more next) refl (some-step t more next h closes)
      ∙ sym (ap (λ (k : ℕ). tables_at d t (conditions_of 1 more) (k - 1)) (count_next t more s o)))
    where
      next : State
      next = step d.n (rows_of d t) s

      formed : well_formed_state d.n next ≡ true
      formed = step-well_formed d.n (rows_of d t) s w

      closes : closed (state_after t more next) ≡ true
      closes = ap closed (sym (state_next t more s)) ∙ e

      go : (k : ℕ) → counted t more next ≡ k → (k ≡ 0 → ⊥) → tables_at d t (conditions more) (k - 1) ≡ tables_at d t (conditions_of 1 more) (suc k - 1)
      go zero q h = absurd (h refl)
      go (suc k) q h =
          let e : suc k - 1 ≡ k = omega arith in
          let e' : suc (suc k) - 1 ≡ suc k = omega arith in
          ap (tables_at d t (conditions more)) e ∙ sym (shifted more 0 k t) ∙ ap (tables_at d t (conditions_of 1 more)) (sym e')
  closed-tables (Replace c ∷ more) t acc s w o e =
      ap (λ (h : Host). (play d h more).tables) (after_open t acc s w o c)
      ∙ closed-tables more (tables_with d t c) (with-accepted d t acc c) s w o (ap closed (sym (state_with t c more s)) ∙ e)
      ∙ ap₂ (λ (at : ℕ → Tables) (k : ℕ). at (k - 1)) (at_once c (conditions more) t) (sym (count_with t c more s))

-- ---- from the fresh run

module _ (d : Dimensions) (tables : Tables) (acc : Accepts d tables) (actions : List Action) where
  -- the host after its calls
  abbrev pub hosted : Host
  hosted = play d (started d tables) actions

  -- its late conditions, and the rows that they leave at each step
  abbrev pub fallen : List Dated
  fallen = conditions_of 0 actions

  -- the rows as they are at each step
  abbrev pub host_rows : ℕ → List Row
  host_rows = rows_at d tables fallen

  -- its state is that after as many steps over the tables as the conditions leave them
  abbrev pub host_state : State
  host_state = after d.n host_rows (steps_of actions) fresh

  -- its run is that of the state after as many steps
  pub host-run : hosted.run ≡ run_of d.n host_state
  host-run = run-follows d actions tables acc fresh (fresh-well_formed d.n)

  -- its tables are those of the next step while the run is open, and once it is closed those at the close
  pub host_open : closed host_state ≡ false → hosted.tables ≡ tables_at d tables fallen (steps_of actions)
  host_open = open_tables d actions tables acc fresh (fresh-well_formed d.n)

  at_close : closed host_state ≡ true → hosted.tables ≡ tables_at d tables fallen ((answer_of d.n host_rows (steps_of actions)).count - 1)
  unfolding answer_of
  at_close = closed-tables d actions tables acc fresh (fresh-well_formed d.n) refl

  -- ---- demand 2 of the tables that a host holds

  -- the verdict of its state is the budgeted run's
  verdict-is : (answer_of d.n host_rows (steps_of actions)).verdict ≡ verdict_of host_state.standing host_state.t
  unfolding answer_of
  verdict-is = ap (λ (s : State). verdict_of s.standing s.t) (final-after d.n (steps_of actions) host_rows fresh)

  -- a satisfied run's T makes every row of its tables true
  pub host-satisfied : hosted.run.standing ≡ Satisfied → all_true (bit hosted.run.t) (rows_of d hosted.tables) ≡ true
  unfolding run_of
  host-satisfied e =
      let now : host_state.standing ≡ Satisfied = ap (λ (r : Run). r.standing) (sym host-run) ∙ e in
      ap₂ (λ (t : ℕ) (x : Tables). all_true (bit t) (rows_of d x)) (ap (λ (r : Run). r.t) host-run)
      (at_close (ap (λ (st : Standing). if_open st false true) now))
      ∙ (demand2_late d tables acc fallen (steps_of actions)).satisfiable host_state.t
      (verdict-is ∙ ap (λ (st : Standing). verdict_of st host_state.t) now)

  -- a refuted run's tables have no satisfying assignment
  pub host-refuted : hosted.run.standing ≡ Refuted → (a : ℕ → Bool) → all_true a (rows_of d hosted.tables) ≡ false
  unfolding run_of
  host-refuted e a =
      let now : host_state.standing ≡ Refuted = ap (λ (r : Run). r.standing) (sym host-run) ∙ e in
      ap (λ (x : Tables). all_true a (rows_of d x)) (at_close (ap (λ (st : Standing). if_open st false true) now))
      ∙ (demand2_late d tables acc fallen (steps_of actions)).unsatisfiable
      (verdict-is ∙ ap (λ (st : Standing). verdict_of st host_state.t) now) a

  -- 2 ^ (n + 1) - 1 steps from the fresh run close it, wherever the conditions fell
  pub host-closes : 2 ^ suc d.n - 1 ≤ steps_of actions → hosted.run.standing ≡ Open → ⊥
  unfolding run_of
  host-closes h e =
      let now : host_state.standing ≡ Open = ap (λ (r : Run). r.standing) (sym host-run) ∙ e in
      (demand2_late d tables acc fallen (steps_of actions)).bound_n h (verdict-is ∙ ap (λ (st : Standing). verdict_of st host_state.t) now)

  -- once the run is closed, the host's tables are those at the close
  pub host-closed : closed host_state ≡ true → hosted.tables ≡ tables_at d tables fallen ((answer_of d.n host_rows (steps_of actions)).count - 1)
  host-closed = at_close
