-- The budgeted run a step at a time: what is left of the budget from the present state gives what the whole gives from the first one.
use mathlib.Core.Path.{◌≡◌, refl, sym, ap, ◌∙◌, subst}
use mathlib.Core.Bool.{Bool, true, false, true≢false}
use mathlib.Core.List.{List}
use Prim.Native.Nat.{ℕ, zero, suc, ◌+◌, ◌-◌, ◌≤◌, ◌<◌}
use native.Mathlib.Omega.{arith}
use lib.Dec.{ltb}
use borrow.Author.Tests.{lt-ltb, le-ltb, ltb-true, ltb-false}
use Rattle.words.specs.declared.Row.{Row}
use Rattle.words.proofs.Truth.{on}
use Rattle.solver.specs.declared.Answer.{Answer}
use Rattle.state.specs.declared.Level.{Level}
use Rattle.state.specs.declared.Run.{Run}
use Rattle.state.specs.declared.Standing.{Standing}
use Rattle.state.specs.declared.Standing.TheVariants.{Open, Satisfied, Refuted}
use Rattle.verdicts.specs.declared.Verdict.{Verdict}
use Rattle.state.specs.State.{State, fresh, state_of, run_of, if_open}
use Rattle.scan.specs.Rules.{rule}
use Rattle.solver.specs.Step.{Ruling, step_with, step, always}
use Rattle.state.specs.WellFormed.{well_formed}
use Rattle.verdicts.specs.Verdicts.{verdict_of}
use Rattle.solver.specs.Entries.{Ran, run_with, run_from, answer_with, answer_of}
use Rattle.truth.proofs.RuleLaws.{Applies, ruled}
use Rattle.solver.proofs.StepLaws.{fresh-well_formed}
use Rattle.state.proofs.HeldRun.{state-back, run_of_formed}
use Rattle.solver.proofs.HeldStep.{step_formed_run-with}

-- steps before a run
abbrev more : ℕ → Ran → Ran
more count r = record { steps = count + r.steps; final = r.final }

more-none : (r : Ran) → r ≡ more 0 r
more-none r = let e : r.steps ≡ 0 + r.steps = omega arith in ap (λ (x : ℕ). record { steps = x; final = r.final }) e

more-more : (a b : ℕ) (r : Ran) → more a (more b r) ≡ more (a + b) r
more-more a b r = let e : a + (b + r.steps) ≡ a + b + r.steps = omega arith in ap (λ (x : ℕ). record { steps = x; final = r.final }) e

-- an open run with a budget left
pub open_e : (st : Standing) (b : Bool) → if_open st b false ≡ true → (st ≡ Open) × (b ≡ true)
open_e Open b e = (refl, e)
open_e Satisfied b e = absurd (true≢false (sym e))
open_e Refuted b e = absurd (true≢false (sym e))

-- something is left of the budget exactly where the count is below it
pub left_over : (count budget : ℕ) → ltb 0 (budget - count) ≡ ltb count budget
left_over count budget =
    on (ltb count budget)
    (λ e. lt-ltb 0 (budget - count) (omega (arith, ltb-true count budget e)) ∙ sym e)
    (λ e. le-ltb 0 (budget - count) (omega (arith, ltb-false count budget e)) ∙ sym e)

module _ (ruling : Ruling) (n : ℕ) (rows : List Row) where
  -- one step of the budget
  unfold_run : (k : ℕ) (s : State)
      → run_with ruling n (always rows) (suc k) s ≡ if_open s.standing (more 1 (run_with ruling n (always rows) k (step_with ruling n rows s)))
      (record { steps = 0; final = s })
  unfolding run_with
  unfold_run k s = go s.standing s.t s.f s.levels
    where
      go : (st : Standing) (t f : ℕ) (ls : List Level)
          → run_with ruling n (always rows) (suc k) (record { standing = st; t = t; f = f; levels = ls })
          ≡ if_open st (more 1 (run_with ruling n (always rows) k (step_with ruling n rows (record { standing = st; t = t; f = f; levels = ls }))))
          (record { steps = 0; final = record { standing = st; t = t; f = f; levels = ls } })
      go Open t f ls =
          let r = run_with ruling n (always rows) k (step_with ruling n rows (record { standing = Open; t = t; f = f; levels = ls })) in
          let e : suc r.steps ≡ 1 + r.steps = omega arith in
          ap (λ (x : ℕ). record { steps = x; final = r.final }) e
      go Satisfied t f ls = refl
      go Refuted t f ls = refl

  -- the run goes on
  goes : (k : ℕ) (s : State) → s.standing ≡ Open → run_with ruling n (always rows) (suc k) s
      ≡ more 1 (run_with ruling n (always rows) k (step_with ruling n rows s))
  goes k s e = unfold_run k s ∙ ap (λ (st : Standing). if_open st (more 1 (run_with ruling n (always rows) k (step_with ruling n rows s)))
      (record { steps = 0; final = s })) e

  -- the run stops
  stops : (k : ℕ) (s : State) → if_open s.standing (ltb 0 k) false ≡ false → run_with ruling n (always rows) k s ≡ record { steps = 0; final = s }
  unfolding run_with
  stops zero s h = refl
  stops (suc k) s h = unfold_run k s ∙ go s.standing (ap (λ (b : Bool). if_open s.standing b false) (sym (lt-ltb 0 (suc k) (omega arith))) ∙ h)
    where
      go : (st : Standing) → if_open st true false ≡ false → if_open st (more 1 (run_with ruling n (always rows) k (step_with ruling n rows s)))
          (record { steps = 0; final = s })
          ≡ record { steps = 0; final = s }
      go Open e = absurd (true≢false e)
      go Satisfied e = refl
      go Refuted e = refl

  -- a run and then another with its own budget from where it ended
  abbrev then : ℕ → Ran → Ran
  then b r = more r.steps (run_with ruling n (always rows) b r.final)

  -- a closed state has no step
  pub run-closed : (k : ℕ) (s : State) → if_open s.standing true false ≡ false → run_with ruling n (always rows) k s ≡ record { steps = 0; final = s }
  run-closed k s h = stops k s (go s.standing h)
    where
      go : (st : Standing) → if_open st true false ≡ false → if_open st (ltb 0 k) false ≡ false
      go Open e = absurd (true≢false e)
      go Satisfied e = refl
      go Refuted e = refl

  -- the run of a + b steps is that of a and then that of b: in the state that they reach, and in the sum of their counts
  pub run_resumes_with : (a b : ℕ) (s : State) → let r = run_with ruling n (always rows) a s in let q = run_with ruling n (always rows) b r.final in
      run_with ruling n (always rows) (a + b) s ≡ record { steps = r.steps + q.steps; final = q.final }
  unfolding run_with
  run_resumes_with zero b s =
      let e : 0 + b ≡ b = omega arith in ap (λ (x : ℕ). run_with ruling n (always rows) x s) e ∙ more-none (run_with ruling n (always rows) b s)
  run_resumes_with (suc a) b s = go (run_resumes_with a b (step_with ruling n rows s)) s.standing refl
    where
      stays : if_open s.standing true false ≡ false → run_with ruling n (always rows) (suc a + b) s ≡ then b (run_with ruling n (always rows) (suc a) s)
      stays h =
          run-closed (suc a + b) s h ∙ sym (ap (λ (r : Ran). then b r) (run-closed (suc a) s h) ∙ ap (λ (r : Ran). more 0 r) (run-closed b s h))

      go : run_with ruling n (always rows) (a + b) (step_with ruling n rows s) ≡ then b (run_with ruling n (always rows) a (step_with ruling n rows s))
          → (st : Standing) → s.standing ≡ st → run_with ruling n (always rows) (suc a + b) s ≡ then b (run_with ruling n (always rows) (suc a) s)
      go h Open e =
          let k : suc a + b ≡ suc (a + b) = omega arith in
          let r = run_with ruling n (always rows) a (step_with ruling n rows s) in
          ap (λ (x : ℕ). run_with ruling n (always rows) x s) k
          ∙ goes (a + b) s e
          ∙ ap (λ (x : Ran). more 1 x) h
          ∙ more-more 1 r.steps (run_with ruling n (always rows) b r.final)
          ∙ sym (ap (λ (x : Ran). then b x) (goes a s e))
      go h Satisfied e = stays (ap (λ (st : Standing). if_open st true false) e)
      go h Refuted e = stays (ap (λ (st : Standing). if_open st true false) e)

-- ---- a loop of steps by a ruling

-- what it knows of its run and count, from the state that it began with
pub record RunningWith (ruling : Ruling) (n : ℕ) (rows : List Row) (budget : ℕ) (start : State) (run : Run) (count : ℕ) : Type 0 where
  pub within : count ≤ budget
  pub same : run.n ≡ n
  pub formed : well_formed run ≡ true
  pub tidy : run ≡ run_of n (state_of run)
  pub left : run_with ruling n (always rows) budget start ≡ more count (run_with ruling n (always rows) (budget - count) (state_of run))

variables_of_lem : (n : ℕ) (s : State) (run : Run) → run ≡ run_of n s → run.n ≡ n
unfolding run_of
variables_of_lem n s run e = ap (λ (r : Run). r.n) e

state_is : (n : ℕ) (s : State) (run : Run) → run ≡ run_of n s → state_of run ≡ s
state_is n s run e = ap (λ (r : Run). state_of r) e ∙ state-back n s

-- a run that holds a state holds its own
own-state : (n : ℕ) (s : State) (run : Run) → run ≡ run_of n s → run ≡ run_of n (state_of run)
own-state n s run e = e ∙ ap (λ (x : State). run_of n x) (sym (state_is n s run e))

module _ (ruling : Ruling) (applies : Applies ruling) (n : ℕ) (rows : List Row) (budget : ℕ) where
  -- what the loop knows holds at its start: of a well-formed run of n variables, and the count 0
  pub running_from-with : (run : Run) → run.n ≡ n → well_formed run ≡ true → run ≡ run_of n (state_of run)
      → RunningWith ruling n rows budget (state_of run) run 0
  running_from-with run same formed tidy =
      let k : budget ≡ budget - 0 = omega arith in record {
        within = omega arith;
        same = same;
        formed = formed;
        tidy = tidy;
        left = more-none (run_with ruling n (always rows) budget (state_of run)) ∙ ap (λ (x : ℕ). more 0 (run_with ruling n (always rows) x (state_of run))) k;
      }

  -- and of the fresh run, of 1 to 32 variables
  pub running_fresh-with : 1 ≤ n → n ≤ 32 → (run : Run) → run ≡ run_of n fresh → RunningWith ruling n rows budget fresh run 0
  running_fresh-with a b run e =
      subst (λ (s : State). RunningWith ruling n rows budget s run 0) (state_is n fresh run e)
      (running_from-with run (variables_of_lem n fresh run e) (ap (λ (r : Run). well_formed r) e ∙ run_of_formed n fresh a b (fresh-well_formed n))
      (own-state n fresh run e))

  module _ (start : State) (run : Run) (count : ℕ) (o : RunningWith ruling n rows budget start run count) where
    -- where the loop goes on, the count is below the budget
    pub running_less-with : if_open run.standing (ltb count budget) false ≡ true → count < budget
    running_less-with h = ltb-true count budget (open_e run.standing (ltb count budget) h).1

    -- where the loop goes on, what it knows holds of the run after one more step and of the count plus 1
    pub running_on_with : if_open run.standing (ltb count budget) false ≡ true → (next : Run) → next ≡ run_of n (step_with ruling n rows (state_of run))
        → RunningWith ruling n rows budget start next (count + 1)
    running_on_with h next e =
        let p = open_e run.standing (ltb count budget) h in
        let b = ltb-true count budget p.1 in
        let k : budget - count ≡ suc (budget - (count + 1)) = omega arith in record {
          within = omega arith;
          same = variables_of_lem n (step_with ruling n rows (state_of run)) next e;
          formed = ap (λ (r : Run). well_formed r) e ∙ step_formed_run-with ruling applies n rows run o.same o.formed;
          tidy = own-state n (step_with ruling n rows (state_of run)) next e;
          left = o.left
              ∙ ap (λ (r : Ran). more count r) (ap (λ (x : ℕ). run_with ruling n (always rows) x (state_of run)) k
              ∙ goes ruling n rows (budget - (count + 1)) (state_of run) p.0)
              ∙ more-more count 1 (run_with ruling n (always rows) (budget - (count + 1)) (step_with ruling n rows (state_of run)))
              ∙ ap (λ (s : State). more (count + 1) (run_with ruling n (always rows) (budget - (count + 1)) s))
              (sym (state_is n (step_with ruling n rows (state_of run)) next e));
        }

    -- where the loop ends, the count and the run's state are the budgeted run's
    pub running_done-with : if_open run.standing (ltb count budget) false ≡ false
        → ◌≡◌ {A = Ran} (record { steps = count; final = state_of run }) (run_with ruling n (always rows) budget start)
    running_done-with h =
        let z : count ≡ count + 0 = omega arith in
        ap (λ (x : ℕ). record { steps = x; final = state_of run }) z
        ∙ sym (o.left ∙ ap (λ (r : Ran). more count r)
        (stops ruling n rows (budget - count) (state_of run) (ap (λ (b : Bool). if_open run.standing b false) (left_over count budget) ∙ h)))

  -- where the fresh run's loop ends, the count and the verdict of the run are the budgeted run's answer
  pub running_end_with : (run : Run) (count : ℕ) → RunningWith ruling n rows budget fresh run count → if_open run.standing (ltb count budget) false ≡ false
      → (v : Verdict) → v ≡ verdict_of run.standing run.t
      → ◌≡◌ {A = Answer} (record { count = count; verdict = v }) (answer_with ruling n (always rows) budget)
  unfolding answer_with
  running_end_with run count o h v e =
      ap (λ (y : Verdict). record { count = count; verdict = y }) e
      ∙ ap (λ (r : Ran). record { count = r.steps; verdict = verdict_of r.final.standing r.final.t }) (running_done-with fresh run count o h)

-- ---- of giant steps

-- what a loop of giant steps knows
abbrev pub Running : ℕ → List Row → ℕ → State → Run → ℕ → Type 0
Running = RunningWith rule

-- the run of a + b giant steps is that of a and then that of b
pub run_resumes : (n : ℕ) (rows : List Row) (a b : ℕ) (s : State) → let r = run_from n (always rows) a s in let q = run_from n (always rows) b r.final in
    run_from n (always rows) (a + b) s ≡ record { steps = r.steps + q.steps; final = q.final }
unfolding run_from
run_resumes = run_resumes_with rule

module _ (n : ℕ) (rows : List Row) (budget : ℕ) where
  -- what the loop knows holds at its start: of a well-formed run of n variables, and the count 0
  pub running_from : (run : Run) → run.n ≡ n → well_formed run ≡ true → run ≡ run_of n (state_of run) → Running n rows budget (state_of run) run 0
  running_from = running_from-with rule ruled n rows budget

  -- and of the fresh run, of 1 to 32 variables
  pub running_fresh : 1 ≤ n → n ≤ 32 → (run : Run) → run ≡ run_of n fresh → Running n rows budget fresh run 0
  running_fresh = running_fresh-with rule ruled n rows budget

  module _ (start : State) (run : Run) (count : ℕ) (o : Running n rows budget start run count) where
    -- where the loop goes on, the count is below the budget
    pub running_less : if_open run.standing (ltb count budget) false ≡ true → count < budget
    running_less = running_less-with rule ruled n rows budget start run count o

    -- where the loop goes on, what it knows holds of the run after one more giant step and of the count plus 1
    pub running_on : if_open run.standing (ltb count budget) false ≡ true → (next : Run) → next ≡ run_of n (step n rows (state_of run))
        → Running n rows budget start next (count + 1)
    unfolding step
    running_on = running_on_with rule ruled n rows budget start run count o

    -- where the loop ends, the count and the run's state are the budgeted run's
    pub running_done : if_open run.standing (ltb count budget) false ≡ false
        → ◌≡◌ {A = Ran} (record { steps = count; final = state_of run }) (run_from n (always rows) budget start)
    unfolding run_from
    running_done = running_done-with rule ruled n rows budget start run count o

  -- where the fresh run's loop ends, the count and the verdict of the run are the budgeted run's answer
  pub running_end : (run : Run) (count : ℕ) → Running n rows budget fresh run count → if_open run.standing (ltb count budget) false ≡ false
      → (v : Verdict) → v ≡ verdict_of run.standing run.t → ◌≡◌ {A = Answer} (record { count = count; verdict = v }) (answer_of n (always rows) budget)
  unfolding answer_of
  running_end = running_end_with rule ruled n rows budget
