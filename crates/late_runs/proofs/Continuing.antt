-- A run continued is that many steps of its host: where a host continues its run between late conditions, all that is said of its calls holds of each call as
-- its steps. By induction on the steps.
use mathlib.Core.Path.{◌≡◌, refl, sym, ap, ◌∙◌}
use mathlib.Core.Bool.{true}
use Prim.Native.Nat.{ℕ, zero, suc}
use lib.ListN.{replicate}
use Rattle.dimensions.specs.declared.Dimensions.{Dimensions}
use Rattle.tables.specs.Tables.{Tables}
use Rattle.tables.specs.Rows.{rows_of}
use Rattle.state.specs.declared.Run.{Run}
use Rattle.state.specs.State.{State, run_of}
use Rattle.state.specs.WellFormed.{well_formed_state}
use Rattle.solver.specs.Step.{always, step, after}
use Rattle.solver.proofs.StepLaws.{step-well_formed}
use Rattle.solver.proofs.RunLaws.{run_is_of}
use Rattle.indexed.specs.Continuing.{Continued, continued, continued_by}
use Rattle.indexed.proofs.Resuming.{state-continued}
use Rattle.repeats.specs.Repeats.{Accepts}
use Rattle.late_runs.specs.Host.{Step, Host, act, play}
use Rattle.late_runs.proofs.Host.{step_leaves}

module _ (d : Dimensions) (tables : Tables) (acc : Accepts d tables) where
  abbrev host : State → Host
  host s = record { tables = tables; run = run_of d.n s }

  -- k steps of a host
  play_steps : (k : ℕ) (s : State) → well_formed_state d.n s ≡ true → play d (host s) (replicate k Step) ≡ host (after d.n (always (rows_of d tables)) k s)
  unfolding play act after
  play_steps zero s w = refl
  play_steps (suc k) s w =
      ap (λ (r : Run). play d (record { tables = tables; run = r }) (replicate k Step)) (step_leaves d tables acc s w)
      ∙ play_steps k (step d.n (rows_of d tables) s) (step-well_formed d.n (rows_of d tables) s w)

  -- a host that continues its run has the run that its counted steps lead to, one call after the other
  pub continues_by_steps : (times : ℕ) (s : State) → well_formed_state d.n s ≡ true → let c = continued d tables times (run_of d.n s) in
      play d (host s) (replicate c.steps Step) ≡ record { tables = tables; run = c.run }
  continues_by_steps times s w =
      let is : continued d tables times (run_of d.n s) ≡ continued_by d.n _ = state-continued d tables acc times s w in
      ap (λ (c : Continued). play d (host s) (replicate c.steps Step)) is
      ∙ play_steps _ s w
      ∙ ap host (sym (run_is_of d.n (always (rows_of d tables)) times s).final-after)
      ∙ sym (ap (λ (c : Continued). record { tables = tables; run = c.run }) is)
