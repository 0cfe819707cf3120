-- What continuing a run gives: it computes from the outcome of its checks.
use mathlib.Core.Path.{◌≡◌, refl, ap, ◌∙◌, subst⁻¹}
use mathlib.Core.Bool.{Bool, true, false}
use mathlib.Core.List.{List, [], ◌∷◌, ◌++◌}
use Prim.Native.Nat.{ℕ, ◌≤◌}
use Rattle.std.specs.Prelude.{Result, Ok, Err}
use Rattle.refusals.specs.Checks.{outcome, given}
use Rattle.refusals.specs.Numbers.{Outcome, code_of, said}
use Rattle.refusals.specs.declared.Refusal.{Refusal}
use Rattle.words.specs.Booleans.{digit}
use Rattle.words.specs.declared.Row.{Row}
use Rattle.dimensions.specs.declared.Dimensions.{Dimensions}
use Rattle.tables.specs.Tables.{Tables}
use Rattle.tables.specs.Rows.{rows_of}
use Rattle.tables.specs.Acceptance.{table_checks}
use Rattle.state.specs.declared.Run.{Run}
use Rattle.state.specs.State.{State, state_of, run_of, fresh, if_open}
use Rattle.state.specs.WellFormed.{well_formed, state_checks}
use Rattle.state.proofs.HeldRun.{state-back, run_of_formed}
use Rattle.verdicts.specs.declared.Verdict.{Verdict}
use Rattle.verdicts.specs.Verdicts.{verdict_of}
use Rattle.solver.specs.declared.Answer.{Answer}
use Rattle.scan.specs.Rules.{rule}
use Rattle.solver.specs.Step.{Ruling, always}
use Rattle.solver.specs.Entries.{Ran, run_with, run_from, answer_of}
use Rattle.solver.proofs.StepLaws.{fresh-well_formed}
use Rattle.indexed.specs.declared.StepsTaken.{StepsTaken}
use Rattle.indexed.specs.declared.tallied.Reached.{Reached}
use Rattle.indexed.specs.Tallied.{reached_by}
use Rattle.indexed.specs.Continuing.{Continued, continued_by, not_continued, continued_with, continued, ran_numbers, steps_taken}
use Rattle.indexed.specs.Continuing.{continued_numbers, taken_outcome, taken_numbers}

-- ---- the fresh run

-- it may be continued
pub fresh_ready : (n : ℕ) → 1 ≤ n → n ≤ 32 → (run : Run) → run ≡ run_of n fresh → (well_formed run ≡ true) × (run.n ≡ n)
unfolding run_of
fresh_ready n a b run e = (ap (λ (r : Run). well_formed r) e ∙ run_of_formed n fresh a b (fresh-well_formed n), ap (λ (r : Run). r.n) e)

-- count and verdict of what its steps reach are the budgeted run's answer
pub fresh-answer : (n : ℕ) (rows : List Row) (budget : ℕ) (run : Run) → run ≡ run_of n fresh
    → (r : Reached) → r ≡ reached_by n (run_from n (always rows) budget (state_of run)) → (v : Verdict) → v ≡ verdict_of r.run.standing r.run.t
    → ◌≡◌ {A = Answer} (record { count = r.steps; verdict = v }) (answer_of n (always rows) budget)
unfolding answer_of run_of
fresh-answer n rows budget run e r q v w =
    let start : state_of run ≡ fresh = ap (λ (x : Run). state_of x) e ∙ state-back n fresh in
    let is : r ≡ reached_by n (run_from n (always rows) budget fresh) = q ∙ ap (λ (s : State). reached_by n (run_from n (always rows) budget s)) start in
    ap (λ (x : Verdict). record { count = r.steps; verdict = x }) w
    ∙ ap (λ (x : Reached). record { count = x.steps; verdict = verdict_of x.run.standing x.run.t }) is

-- ---- any run, by any ruling

-- what a call says: its number, then its values
abbrev pub says : Result StepsTaken Refusal → List ℕ
says r = code_of (taken_outcome r) ∷ taken_numbers r

-- outcome, run and numbers of what a call returned and left
module _ (c : Continued) where
  outcome_told : taken_outcome (steps_taken c) ≡ c.outcome
  outcome_told = go c.outcome
    where
      go : (o : Outcome) → taken_outcome (given o (Ok (record { steps = c.steps; closed = c.closed })) Err) ≡ o
      go (Ok _) = refl
      go (Err r) = refl

  numbers_told : taken_numbers (steps_taken c) ≡ continued_numbers c
  numbers_told = go c.outcome
    where
      go : (o : Outcome) → taken_numbers (given o (Ok (record { steps = c.steps; closed = c.closed })) Err)
          ≡ given o (c.steps ∷ (digit c.closed ∷ [])) (λ r. [])
      go (Ok _) = refl
      go (Err r) = refl

  -- all three at once
  pub told : (r : Result StepsTaken Refusal) → r ≡ steps_taken c → (last : Run) → last ≡ c.run
      → (taken_outcome r ≡ c.outcome) × (last ≡ c.run) × (taken_numbers r ≡ continued_numbers c)
  told r e last h = (ap taken_outcome e ∙ outcome_told, h, ap taken_numbers e ∙ numbers_told)

module _ (ruling : Ruling) (d : Dimensions) (tables : Tables) (times : ℕ) (run : Run) where
  abbrev checked : Outcome
  checked = outcome (table_checks d tables ++ state_checks d run)

  abbrev ran : Ran
  ran = run_with ruling d.n (always (rows_of d tables)) times (state_of run)

  -- what a call in place hands back: its result, and the run that it leaves
  abbrev pub Hands : Result StepsTaken Refusal → Run → Type 0
  Hands r next =
      (r ≡ steps_taken (continued_with ruling d tables times run)) × (next ≡ (continued_with ruling d tables times run).run)
      × (says r ≡ said checked (ran_numbers ran))

  -- by an outcome of the checks
  by-checks : (o : Outcome) → o ≡ checked → let c = given o (continued_by d.n ran) (not_continued run) in Hands (steps_taken c) c.run
  unfolding continued_with
  by-checks o e =
      let is : given o (continued_by d.n ran) (not_continued run) ≡ continued_with ruling d tables times run =
      ap (λ (x : Outcome). given x (continued_by d.n ran) (not_continued run)) e in
      (ap steps_taken is, ap (λ (c : Continued). c.run) is, says-by o ∙ ap (λ (x : Outcome). said x (ran_numbers ran)) e)
    where
      says-by : (x : Outcome) → says (steps_taken (given x (continued_by d.n ran) (not_continued run))) ≡ said x (ran_numbers ran)
      says-by (Ok _) = refl
      says-by (Err q) = refl

  -- where the checks take the call, what the steps reach is given
  pub continue-taken-with : Ok tt ≡ checked → let c = continued_by d.n ran in Hands (steps_taken c) c.run
  continue-taken-with = by-checks (Ok tt)

  -- where they refuse it, the run as it was
  pub continue-refused-with : (q : Refusal) → Err q ≡ checked → Hands (Err q) run
  continue-refused-with q = by-checks (Err q)

-- ---- by giant steps

module _ (d : Dimensions) (tables : Tables) (times : ℕ) (run : Run) where
  abbrev asked : Outcome
  asked = outcome (table_checks d tables ++ state_checks d run)

  abbrev reached : Ran
  reached = run_from d.n (always (rows_of d tables)) times (state_of run)

  abbrev HandsOn : Result StepsTaken Refusal → Run → Type 0
  HandsOn r next = (r ≡ steps_taken (continued d tables times run)) × (next ≡ (continued d tables times run).run) × (says r ≡ said asked (ran_numbers reached))

  -- the run that the steps reach, how many they are and whether it is closed
  pub continue-taken : Ok tt ≡ asked → (r : Reached) → r ≡ reached_by d.n reached → (b : Bool) → b ≡ if_open r.run.standing false true
      → HandsOn (Ok (record { steps = r.steps; closed = b })) r.run
  unfolding run_of continued
  continue-taken e r q b h =
      subst⁻¹ (λ (y : Bool). HandsOn (Ok (record { steps = r.steps; closed = y })) r.run) h
      (subst⁻¹ (λ (x : Reached). HandsOn (Ok (record { steps = x.steps; closed = if_open x.run.standing false true })) x.run) q
      (continue-taken-with rule d tables times run e))

  pub continue-refused : (q : Refusal) → Err q ≡ asked → HandsOn (Err q) run
  unfolding continued
  continue-refused = continue-refused-with rule d tables times run
