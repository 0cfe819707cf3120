-- A host's closed run stays closed, and its tables stay, whatever it calls: the tables that it holds are then those at the close. By induction on the calls.
use mathlib.Core.Path.{◌≡◌, refl, sym, ap, ◌∙◌}
use mathlib.Core.List.{List, [], ◌∷◌, ◌++◌}
use Prim.Native.Nat.{ℕ, zero, suc}
use lib.ListN.{replicate}
use Rattle.std.specs.Prelude.{Ok, Err}
use Rattle.refusals.specs.Numbers.{Outcome}
use Rattle.refusals.specs.Checks.{outcome, given}
use Rattle.words.specs.declared.Row.{Row}
use Rattle.dimensions.specs.declared.Dimensions.{Dimensions}
use Rattle.tables.specs.Tables.{Tables}
use Rattle.tables.specs.Rows.{rows_of}
use Rattle.tables.specs.Acceptance.{table_checks}
use Rattle.state.specs.declared.Run.{Run}
use Rattle.state.specs.declared.Standing.{Standing}
use Rattle.state.specs.declared.Standing.TheVariants.{Open, Satisfied, Refuted}
use Rattle.state.specs.State.{State, run_of, state_of, if_open}
use Rattle.state.specs.WellFormed.{state_checks}
use Rattle.scan.specs.Rules.{rule}
use Rattle.solver.specs.Step.{follow, Ruling, always, step_with}
use Rattle.solver.specs.Entries.{Stepped, Ran, run_with, stepped_with, stepped}
use Rattle.indexed.specs.Continuing.{continued_by, not_continued, continued_with, continued}
use Rattle.weighted.specs.Weights.{weighted_rule}
use Rattle.late.specs.declared.Condition.{Condition}
use Rattle.late.specs.Replacement.{late_checks, tables_after}
use Rattle.late.proofs.Checks.{late_parts, after-refused}
use Rattle.repeats.specs.Repeats.{Repeat, last_run, repeats}
use Rattle.repeats.specs.Repeating.{whole, made, allowed, repeated_by, refused_with, repeated}
use Rattle.bounds.specs.CountingHost.{HostCall, StepPlain, StepWeighted, ContinuePlain, ContinueWeighted, RepeatCircuit, ReplaceRow, CountingHost}
use Rattle.bounds.specs.CountingHost.{act_counting, play_counting}

module _ (d : Dimensions) where
  abbrev Closed : Run → Type 0
  Closed r = r.standing ≡ Open → ⊥

  abbrev Shut : State → Type 0
  Shut s = s.standing ≡ Open → ⊥

  shut_step : (ruling : Ruling) (n : ℕ) (rows : List Row) (s : State) → Shut s → step_with ruling n rows s ≡ s
  unfolding step_with
  shut_step ruling n rows s = go s.standing
    where
      go : (st : Standing) → (st ≡ Open → ⊥) → if_open st (follow s (ruling n rows s.t s.f)) s ≡ s
      go Open e = absurd (e refl)
      go Satisfied e = refl
      go Refuted e = refl

  shut_run : (ruling : Ruling) (n : ℕ) (rows : List Row) (times : ℕ) (s : State) → Shut s → (run_with ruling n (always rows) times s).final ≡ s
  unfolding run_with
  shut_run ruling n rows zero s e = refl
  shut_run ruling n rows (suc times) s e = go (run_with ruling n (always rows) times (step_with ruling n rows s)) s.standing e
    where
      go : (r : Ran) (st : Standing) → (st ≡ Open → ⊥) → let q : Ran = elim st [
        | Open ↦ record { steps = suc r.steps; final = r.final }
        | Satisfied ↦ record { steps = 0; final = s }
        | Refuted ↦ record { steps = 0; final = s }
      ] in q.final ≡ s
      go r Open e = absurd (e refl)
      go r Satisfied e = refl
      go r Refuted e = refl

  module _ (t : Tables) (run : Run) (e : Closed run) where
    step-closed : (ruling : Ruling) → Closed (stepped_with ruling d t run).run
    unfolding stepped_with run_of
    step-closed ruling = go (outcome (table_checks d t ++ state_checks d run))
      where
        next : Run
        next = run_of d.n (step_with ruling d.n (rows_of d t) (state_of run))

        go : (o : Outcome) → Closed (given {A = Stepped} o (record { outcome = Ok tt; run = next }) (λ r. record { outcome = Err r; run = run })).run
        go (Ok _) h = e (ap (λ (s : State). s.standing) (sym (shut_step ruling d.n (rows_of d t) (state_of run) e)) ∙ h)
        go (Err r) h = e h

    continue-closed : (ruling : Ruling) (times : ℕ) → Closed (continued_with ruling d t times run).run
    unfolding continued_with run_of
    continue-closed ruling times = go (outcome (table_checks d t ++ state_checks d run))
      where
        r : Ran
        r = run_with ruling d.n (always (rows_of d t)) times (state_of run)

        go : (o : Outcome) → Closed (given o (continued_by d.n r) (not_continued run)).run
        go (Ok _) h = e (ap (λ (s : State). s.standing) (sym (shut_run ruling d.n (rows_of d t) times (state_of run) e)) ∙ h)
        go (Err q) h = e h

    repeat-closed : (times : ℕ) (gates bytes wires : List ℕ) → Closed (repeated d t times gates bytes wires run).run
    unfolding repeated made last_run
    repeat-closed times gates bytes wires = go (allowed d t times gates bytes wires run) run.standing refl
      where
        asked : List Repeat
        asked = repeats d (λ i. t) times run (replicate times (whole d bytes wires))

        go : (o : Outcome) (st : Standing) → run.standing ≡ st → Closed (given o (repeated_by run (if_open st asked [])) (refused_with run)).run
        go (Ok _) Open w h = e w
        go (Ok _) Satisfied w h = e h
        go (Ok _) Refuted w h = e h
        go (Err q) st w h = e h

    replace-closed : (c : Condition) → tables_after d t run c ≡ t
    replace-closed c = go (outcome (late_checks d t run c)) refl
      where
        go : (o : Outcome) → outcome (late_checks d t run c) ≡ o → tables_after d t run c ≡ t
        go (Err r) w = after-refused d t run c r w
        go (Ok _) w = absurd (e (late_parts d t run c w).fitting.running)

  act-closed : (h : CountingHost) → Closed h.run → (c : HostCall) → Closed (act_counting d h c).run × ((act_counting d h c).tables ≡ h.tables)
  unfolding act_counting stepped continued
  act-closed h e StepPlain = (step-closed h.tables h.run e rule, refl)
  act-closed h e StepWeighted = (step-closed h.tables h.run e weighted_rule, refl)
  act-closed h e (ContinuePlain times) = (continue-closed h.tables h.run e rule times, refl)
  act-closed h e (ContinueWeighted times) = (continue-closed h.tables h.run e weighted_rule times, refl)
  act-closed h e (RepeatCircuit times gates bytes wires) = (repeat-closed h.tables h.run e times gates bytes wires, refl)
  act-closed h e (ReplaceRow c) = (e, replace-closed h.tables h.run e c)

  -- once a run is closed its host's tables stay, whatever it calls: those that it holds are those at the close
  pub closed-tables : (calls : List HostCall) (h : CountingHost) → (h.run.standing ≡ Open → ⊥) → (play_counting d h calls).tables ≡ h.tables
  unfolding play_counting
  closed-tables [] h e = refl
  closed-tables (c ∷ more) h e = let next = act-closed h e c in closed-tables more (act_counting d h c) next.0 ∙ next.1
