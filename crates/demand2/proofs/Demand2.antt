-- Demand 2: the budgeted run ends after as many steps as it counts, and what is known of the state there gives each part.
use mathlib.Core.Path.{◌≡◌, refl, sym, ap, ◌∙◌}
use mathlib.Core.Bool.{Bool, true, false}
use mathlib.Core.List.{List}
use Prim.Native.Nat.{ℕ, zero, suc, ◌-◌, ◌^◌, ◌≤◌, ◌<◌}
use native.Mathlib.Omega.{arith}
use lib.Dec.{ltb}
use lib.Pow.{pow_mono}
use borrow.Author.Tests.{ltb-true, ltb-false}
use Rattle.std.specs.Prelude.{Ok}
use Rattle.words.specs.declared.Row.{Row}
use Rattle.words.proofs.Truth.{on}
use Rattle.refusals.specs.Checks.{outcome}
use Rattle.words.specs.Sets.{bit}
use Rattle.dimensions.specs.declared.Dimensions.{Dimensions}
use Rattle.tables.specs.Tables.{Tables}
use Rattle.tables.specs.Rows.{rows_of}
use Rattle.tables.specs.Acceptance.{low_row, table_checks}
use Rattle.tables.proofs.Accepted.{accepted}
use Rattle.state.specs.declared.Standing.{Standing}
use Rattle.state.specs.declared.Standing.TheVariants.{Open, Satisfied, Refuted}
use Rattle.verdicts.specs.declared.Verdict.TheVariants.{Satisfiable, Unsatisfiable, Unknown}
use Rattle.scan.specs.Rules.{all_rows, rule}
use Rattle.state.specs.State.{State, fresh}
use Rattle.solver.specs.Step.{Ruling, step_with, always, after_with, after}
use Rattle.truth.specs.Truth.{all_true, occurring}
use Rattle.verdicts.specs.Verdicts.{verdict_of}
use Rattle.solver.specs.Entries.{Ran, run_with, answer_with, answer_of}
use Rattle.demand2.specs.Demand2.{Demand2With, Demand2}
use Rattle.truth.proofs.RuleLaws.{Applies, ruled}
use Rattle.solver.proofs.RunLaws.{RunOver, run_of_with}
use Rattle.truth.proofs.LowRows.{accepted-low}
use Rattle.demand2.proofs.Satisfaction.{satisfied-model}
use Rattle.demand2.proofs.Refutation.{refuted-none}
use Rattle.solver.proofs.StepLaws.{after_last, after_formed_with, fresh_formed}
use Rattle.demand2.proofs.Growth.{Grows, grows_same}
use Rattle.demand2.proofs.Bound.{after-closes, occurring_le}

-- ---- the standing that a verdict comes from

-- a verdict of satisfiable comes from a satisfied standing, and its model is T
pub verdict-satisfied : (st : Standing) (t model : ℕ) → verdict_of st t ≡ Satisfiable model → (st ≡ Satisfied) × (t ≡ model)
verdict-satisfied Open t model e = let z : ◌≡◌ {A = ℕ} 0 1 = cc in absurd (omega arith)
verdict-satisfied Satisfied t model e = (refl, cc)
verdict-satisfied Refuted t model e = let z : ◌≡◌ {A = ℕ} 0 1 = cc in absurd (omega arith)

-- one of unsatisfiable comes from a refuted standing
pub verdict-refuted : (st : Standing) (t : ℕ) → verdict_of st t ≡ Unsatisfiable → st ≡ Refuted
verdict-refuted Open t e = let z : ◌≡◌ {A = ℕ} 0 1 = cc in absurd (omega arith)
verdict-refuted Satisfied t e = let z : ◌≡◌ {A = ℕ} 0 1 = cc in absurd (omega arith)
verdict-refuted Refuted t e = refl

verdict_open : (st : Standing) (t : ℕ) → verdict_of st t ≡ Unknown → st ≡ Open
verdict_open Open t e = refl
verdict_open Satisfied t e = let z : ◌≡◌ {A = ℕ} 0 1 = cc in absurd (omega arith)
verdict_open Refuted t e = let z : ◌≡◌ {A = ℕ} 0 1 = cc in absurd (omega arith)

-- ---- rows whose words are below 2 ^ n, of which only padding rows are replaced

module _ (ruling : Ruling) (applies : Applies ruling) (n : ℕ) (rows : ℕ → List Row) (few : n ≤ 32) (low : (i : ℕ) → all_rows (low_row n) (rows i) ≡ true)
    (grows : (i j : ℕ) → i ≤ j → Grows n (rows i) (rows j)) (budget : ℕ) where
  r : Ran
  r = run_with ruling n rows budget fresh

  ran : RunOver (λ k. after_with ruling n rows k fresh) budget r
  unfolding r
  ran = run_of_with ruling n rows budget fresh

  -- the rows that the last step read
  abbrev last : List Row
  last = rows (r.steps - 1)

  -- the state before it
  abbrev before : State
  before = after_with ruling n rows (r.steps - 1) fresh

  -- the fresh state is open
  some-step : (st : Standing) → (st ≡ Open → ⊥) → r.final.standing ≡ st → 0 < r.steps
  unfolding after_with
  some-step st h e = go r.steps refl
    where
      go : (k : ℕ) → r.steps ≡ k → 0 < k
      go zero q = absurd (h (sym e ∙ ap (λ (s : State). s.standing) ran.final-after ∙ ap (λ (k : ℕ). (after_with ruling n rows k fresh).standing) q))
      go (suc k) q = omega arith

  last_step : 0 < r.steps → r.final ≡ step_with ruling n last before
  last_step h =
      let k : r.steps ≡ suc (r.steps - 1) = omega arith in
      ran.final-after ∙ ap (λ (k : ℕ). after_with ruling n rows k fresh) k ∙ after_last ruling n rows (r.steps - 1) fresh

  model-true : (model : ℕ) → verdict_of r.final.standing r.final.t ≡ Satisfiable model → all_true (bit model) last ≡ true
  model-true model e =
      let v = verdict-satisfied r.final.standing r.final.t model e in
      let some = some-step Satisfied (λ q. let z : ◌≡◌ {A = ℕ} 0 1 = cc in omega arith) v.0 in
      let is = last_step some in
      let h : (step_with ruling n last before).standing ≡ Satisfied = ap (λ (s : State). s.standing) (sym is) ∙ v.0 in
      let m : (step_with ruling n last before).t ≡ model = ap (λ (s : State). s.t) (sym is) ∙ v.1 in
      rw m at (satisfied-model ruling applies n last few (low (r.steps - 1)) before
      (after_formed_with ruling applies n rows (r.steps - 1) fresh (fresh_formed n))
      (ran.open_before (r.steps - 1) (omega arith)) h)

  none_true : verdict_of r.final.standing r.final.t ≡ Unsatisfiable → (a : ℕ → Bool) → all_true a last ≡ false
  none_true e a =
      on (all_true a last)
      (λ h. absurd (refuted-none ruling applies n rows few low r.steps
      (ap (λ (s : State). s.standing) (sym ran.final-after) ∙ verdict-refuted r.final.standing r.final.t e)
      a (λ i b. (grows i (r.steps - 1) (omega arith)).true-before a h)))
      (λ h. h)

  still_open : verdict_of r.final.standing r.final.t ≡ Unknown → (r.steps ≡ budget) × ((after_with ruling n rows budget fresh).standing ≡ Open)
  still_open e =
      let h = verdict_open r.final.standing r.final.t e in
      let whole = ran.open_whole h in
      (whole, ap (λ (k : ℕ). (after_with ruling n rows k fresh).standing) (sym whole) ∙ ap (λ (s : State). s.standing) (sym ran.final-after) ∙ h)

  -- an open run has taken fewer steps
  open_bound : (k : ℕ) → k ≤ r.steps → (after_with ruling n rows k fresh).standing ≡ Open → k < 2 ^ suc (occurring n last) - 1
  open_bound k b e =
      on (ltb k (2 ^ suc (occurring n last) - 1)) (ltb-true _ _)
      (λ h. absurd (after-closes ruling applies n last k rows (λ i c v. (grows i (r.steps - 1) (omega arith)).occurs_still v) (ltb-false _ _ h) e))

  steps_bound : r.steps ≤ 2 ^ suc (occurring n last) - 1
  steps_bound = go r.steps refl
    where
      go : (k : ℕ) → r.steps ≡ k → k ≤ 2 ^ suc (occurring n last) - 1
      go zero e = omega arith
      go (suc k) e = omega (arith, open_bound k (omega arith) (ran.open_before k (omega arith)))

  unknown_bound : 2 ^ suc (occurring n last) - 1 ≤ budget → verdict_of r.final.standing r.final.t ≡ Unknown → ⊥
  unknown_bound h e = let o = still_open e in omega (arith, open_bound budget (omega (arith, o.0)) o.1)

  -- the budgeted run's answer meets demand 2 where n is at most 32, no row has a bit at or above n, and the rows of each step grow from the earlier ones
  pub demand2_with : Demand2With ruling n rows budget (answer_with ruling n rows budget)
  unfolding answer_with r
  demand2_with = record {
    satisfiable = model-true;
    unsatisfiable = none_true;
    unknown = still_open;
    count_most = ran.most;
    count_least = ran.open_before;
    count-closes = λ e. ran.open_whole (ap (λ (s : State). s.standing) ran.final-after ∙ e);
    by-standing = ap (λ (s : State). verdict_of s.standing s.t) ran.final-after;
    bound_count = steps_bound;
    bound = unknown_bound;
    bound_n = λ h e. let p : 2 ^ suc (occurring n last) ≤ 2 ^ suc n = pow_mono (omega (arith, occurring_le n last)) in unknown_bound (omega arith) e;
  }

-- ---- giant steps

-- the answer of giant steps meets demand 2 over such rows
pub demand2_rows : (n : ℕ) (rows : ℕ → List Row) → n ≤ 32 → ((i : ℕ) → all_rows (low_row n) (rows i) ≡ true)
    → ((i j : ℕ) → i ≤ j → Grows n (rows i) (rows j)) → (budget : ℕ) → Demand2 n rows budget (answer_of n rows budget)
unfolding after answer_of
demand2_rows = demand2_with rule ruled

-- ---- accepted tables

-- by any ruling whose rule applies, under any budget, no row replaced
pub demand2_tables : (ruling : Ruling) → Applies ruling → (d : Dimensions) (tables : Tables) (budget : ℕ) → outcome (table_checks d tables) ≡ Ok tt
    → let rows = always (rows_of d tables) in Demand2With ruling d.n rows budget (answer_with ruling d.n rows budget)
demand2_tables ruling applies d tables budget e =
    demand2_with ruling applies d.n (always (rows_of d tables)) (accepted d tables e).size.n-most (λ i. accepted-low d tables e)
    (λ i j b. grows_same d.n (rows_of d tables)) budget

-- under any budget, no row replaced
pub demand2 : (d : Dimensions) (tables : Tables) (budget : ℕ) → outcome (table_checks d tables) ≡ Ok tt
    → let rows = always (rows_of d tables) in Demand2 d.n rows budget (answer_of d.n rows budget)
unfolding after answer_of
demand2 = demand2_tables rule ruled
