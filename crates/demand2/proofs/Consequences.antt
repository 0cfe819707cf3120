-- What demand 2 comes to, in a reader's words. From the fields of the record alone, each of which is used: one that said less would be refused here.
use mathlib.Core.Path.{◌≡◌, refl, sym, ap, ap₂, ◌∙◌}
use mathlib.Core.Bool.{Bool, true, false, true≢false}
use mathlib.Core.List.{List, [], ◌∷◌, ◌++◌}
use Prim.Native.Nat.{ℕ, zero, suc, ◌+◌, ◌-◌, ◌^◌, ◌≤◌, ◌<◌}
use native.Mathlib.Omega.{arith}
use lib.Dec.{ltb}
use borrow.Author.Tests.{ltb-true, ltb-false}
use Rattle.std.specs.Prelude.{Ok}
use Rattle.words.specs.declared.Row.{Row}
use Rattle.words.specs.Sets.{bit}
use Rattle.words.proofs.Truth.{on, and_l, and_r, and_i}
use Rattle.refusals.specs.Checks.{outcome}
use Rattle.dimensions.specs.declared.Dimensions.{Dimensions}
use Rattle.tables.specs.Tables.{Tables}
use Rattle.tables.specs.Rows.{row_at, rows_from, rows_of}
use Rattle.tables.specs.Acceptance.{table_checks}
use Rattle.state.specs.declared.Standing.{Standing}
use Rattle.state.specs.declared.Standing.TheVariants.{Open, Satisfied, Refuted}
use Rattle.state.specs.State.{State}
use Rattle.verdicts.specs.declared.Verdict.{Verdict}
use Rattle.verdicts.specs.declared.Verdict.TheVariants.{Satisfiable, Unsatisfiable, Unknown}
use Rattle.scan.specs.Rules.{all_rows}
use Rattle.scan.proofs.RowLaws.{In, not-all-rows}
use Rattle.solver.specs.declared.Answer.{Answer}
use Rattle.solver.specs.Step.{always}
use Rattle.truth.specs.Truth.{row_true, all_true, occurring}
use Rattle.solver.specs.Entries.{answer_of}
use Rattle.verdicts.specs.Verdicts.{verdict_of, verdict_number}
use Rattle.demand2.specs.Demand2.{at_end, state_at_end, Demand2Of}
use Rattle.demand2.proofs.Demand2.{verdict-satisfied, verdict-refuted, demand2}

-- ---- any answer of which demand 2 holds

module _ (n : ℕ) (rows : ℕ → List Row) {states : ℕ → State} (budget : ℕ) (answer : Answer) (holds : Demand2Of n rows states budget answer) where
  -- no other number is the least number of steps, at most the budget, that closes the run, or else the budget
  pub count-only : (k : ℕ) → k ≤ budget → ((j : ℕ) → j < k → (states j).standing ≡ Open)
      → ((states k).standing ≡ Open → k ≡ budget) → answer.count ≡ k
  count-only k most least closes =
      let c = answer.count in
      on (ltb c k)
      (λ h. let lt = ltb-true c k h in absurd (omega (arith, holds.count-closes (least c lt))))
      (λ h.
      on (ltb k c)
      (λ h'. let lt = ltb-true k c h' in absurd (omega (arith, holds.count_most, closes (holds.count_least k lt))))
      (λ h'. omega (arith, ltb-false c k h, ltb-false k c h')))

  -- a run that the budget's steps close is decided, and unknown has spent the whole budget
  pub closed_decided : ((states budget).standing ≡ Open → ⊥) → answer.verdict ≡ Unknown → ⊥
  closed_decided closed e = closed (holds.unknown e).1

  pub unknown_spent : answer.verdict ≡ Unknown → answer.count ≡ budget
  unknown_spent e = (holds.unknown e).0

  -- a satisfied run is satisfiable by its T, a refuted one unsatisfiable, and no other is
  pub satisfied-model-given : (state_at_end states answer).standing ≡ Satisfied → answer.verdict ≡ Satisfiable (state_at_end states answer).t
  satisfied-model-given e = holds.by-standing ∙ ap (λ (st : Standing). verdict_of st (state_at_end states answer).t) e

  pub refuted-said : (state_at_end states answer).standing ≡ Refuted → answer.verdict ≡ Unsatisfiable
  refuted-said e = holds.by-standing ∙ ap (λ (st : Standing). verdict_of st (state_at_end states answer).t) e

  pub model-is_t : (model : ℕ) → answer.verdict ≡ Satisfiable model
      → ((state_at_end states answer).standing ≡ Satisfied) × ((state_at_end states answer).t ≡ model)
  model-is_t model e = verdict-satisfied (state_at_end states answer).standing (state_at_end states answer).t model (sym holds.by-standing ∙ e)

  pub unsatisfiable_refuted : answer.verdict ≡ Unsatisfiable → (state_at_end states answer).standing ≡ Refuted
  unsatisfiable_refuted e = verdict-refuted (state_at_end states answer).standing (state_at_end states answer).t (sym holds.by-standing ∙ e)

  -- a decided answer tells whether some assignment makes every row true
  found : (answer.verdict ≡ Unknown → ⊥) → (a : ℕ → Bool) → all_true a (at_end rows answer) ≡ true
      → (model : ℕ) × (answer.verdict ≡ Satisfiable model) × (all_true (bit model) (at_end rows answer) ≡ true)
  found decided a h = go answer.verdict refl
    where
      go : (v : Verdict) → answer.verdict ≡ v → (model : ℕ) × (answer.verdict ≡ Satisfiable model) × (all_true (bit model) (at_end rows answer) ≡ true)
      go (Satisfiable model) e = (model, e, holds.satisfiable model e)
      go Unsatisfiable e = absurd (true≢false (sym h ∙ holds.unsatisfiable e a))
      go Unknown e = absurd (decided e)

  none : (answer.verdict ≡ Unknown → ⊥) → ((a : ℕ → Bool) → all_true a (at_end rows answer) ≡ false) → answer.verdict ≡ Unsatisfiable
  none decided h = go answer.verdict refl
    where
      go : (v : Verdict) → answer.verdict ≡ v → answer.verdict ≡ Unsatisfiable
      go (Satisfiable model) e = absurd (true≢false (sym (holds.satisfiable model e) ∙ h (bit model)))
      go Unsatisfiable e = e
      go Unknown e = absurd (decided e)

  -- with a budget of 2 ^ (n + 1) - 1 it does
  pub enough_satisfiable : 2 ^ suc n - 1 ≤ budget → (a : ℕ → Bool) → all_true a (at_end rows answer) ≡ true
      → (model : ℕ) × (answer.verdict ≡ Satisfiable model) × (all_true (bit model) (at_end rows answer) ≡ true)
  enough_satisfiable h = found (holds.bound_n h)

  -- and where no assignment makes every row true, it says unsatisfiable
  pub enough_unsatisfiable : 2 ^ suc n - 1 ≤ budget → ((a : ℕ → Bool) → all_true a (at_end rows answer) ≡ false) → answer.verdict ≡ Unsatisfiable
  enough_unsatisfiable h = none (holds.bound_n h)

  -- where every row is padding or empty, one step is enough
  pub one-step : occurring n (at_end rows answer) ≡ 0 → 1 ≤ budget → (answer.count ≤ 1) × (answer.verdict ≡ Unknown → ⊥)
  one-step none-occurs some =
      let one : 2 ^ suc (occurring n (at_end rows answer)) - 1 ≡ 1 = ap (λ (k : ℕ). 2 ^ suc k - 1) none-occurs in
      (omega (arith, one, holds.bound_count), holds.bound (omega (arith, one)))

module _ (n : ℕ) (rows : ℕ → List Row) {states : ℕ → State} (budget : ℕ) (answer answer' : Answer)
    (holds : Demand2Of n rows states budget answer) (holds' : Demand2Of n rows states budget answer') where
  -- demand 2 leaves one answer: count, verdict and model
  pub one_answer : answer ≡ answer'
  one_answer =
      let same : answer.count ≡ answer'.count =
      count-only n rows budget answer holds answer'.count holds'.count_most holds'.count_least holds'.count-closes in
      ap₂ (λ (k : ℕ) (v : Verdict). record { count = k; verdict = v }) same
      (holds.by-standing
      ∙ ap (λ (k : ℕ). let s = states k in verdict_of s.standing s.t) same
      ∙ sym holds'.by-standing)

-- ---- two runs over the same rows throughout, each by its own steps and under its own budget

module _ (n : ℕ) (rows : List Row) {states states' : ℕ → State} (budget budget' : ℕ) (answer answer' : Answer)
    (holds : Demand2Of n (always rows) states budget answer) (holds' : Demand2Of n (always rows) states' budget' answer') where
  -- where neither is unknown, the verdicts are the same: both satisfiable or both unsatisfiable
  pub same-verdict : (answer.verdict ≡ Unknown → ⊥) → (answer'.verdict ≡ Unknown → ⊥) → verdict_number answer.verdict ≡ verdict_number answer'.verdict
  same-verdict decided decided' = go answer.verdict answer'.verdict refl refl
    where
      go : (v v' : Verdict) → answer.verdict ≡ v → answer'.verdict ≡ v' → verdict_number v ≡ verdict_number v'
      go Unknown v' e e' = absurd (decided e)
      go (Satisfiable model) Unknown e e' = absurd (decided' e')
      go Unsatisfiable Unknown e e' = absurd (decided' e')
      go (Satisfiable model) (Satisfiable model') e e' = refl
      go Unsatisfiable Unsatisfiable e e' = refl
      go (Satisfiable model) Unsatisfiable e e' = absurd (true≢false (sym (holds.satisfiable model e) ∙ holds'.unsatisfiable e' (bit model)))
      go Unsatisfiable (Satisfiable model) e e' = absurd (true≢false (sym (holds'.satisfiable model e') ∙ holds.unsatisfiable e (bit model)))

-- ---- the answer for accepted tables, row by row

module _ (p : Row → Bool) where
  all-front : (xs ys : List Row) → all_rows p (xs ++ ys) ≡ true → all_rows p xs ≡ true
  unfolding all_rows
  all-front [] ys e = refl
  all-front (r ∷ rs) ys e = and_i (and_l (p r) _ e) (all-front rs ys (and_r (p r) _ e))

  all-behind : (xs ys : List Row) → all_rows p (xs ++ ys) ≡ true → all_rows p ys ≡ true
  unfolding all_rows
  all-behind [] ys e = e
  all-behind (r ∷ rs) ys e = all-behind rs ys (and_r (p r) _ e)

  numbered : (words : List ℕ) (i k : ℕ) → all_rows p (rows_from words i k) ≡ true → (j : ℕ) → i ≤ j → j < i + k → p (row_at words j) ≡ true
  unfolding all_rows
  numbered words i zero e j b c = absurd (omega arith)
  numbered words i (suc k) e j b c =
      on (ltb i j)
      (λ h. numbered words (suc i) k (and_r (p (row_at words i)) _ e) j (ltb-true i j h) (omega arith))
      (λ h. let same : j ≡ i = omega (arith, ltb-false i j h) in ap (λ (k : ℕ). p (row_at words k)) same ∙ and_l (p (row_at words i)) _ e)

module _ (d : Dimensions) (tables : Tables) (budget : ℕ) (accepted : outcome (table_checks d tables) ≡ Ok tt) where
  abbrev answer : Answer
  answer = answer_of d.n (always (rows_of d tables)) budget

  module _ (model : ℕ) (e : answer.verdict ≡ Satisfiable model) where
    all : all_rows (row_true (bit model)) (rows_of d tables) ≡ true
    unfolding all_true
    all = (demand2 d tables budget accepted).satisfiable model e

    -- the rows after the left station's
    abbrev behind : List Row
    behind = rows_from tables.right 0 d.right ++ rows_from tables.public 0 d.public

    all_there : all_rows (row_true (bit model)) behind ≡ true
    all_there = all-behind (row_true (bit model)) (rows_from tables.left 0 d.left) behind all

    -- a model makes each row of the left table true, each of the right, and each public one
    pub model-left : (i : ℕ) → i < d.left → row_true (bit model) (row_at tables.left i) ≡ true
    model-left i b =
        numbered (row_true (bit model)) tables.left 0 d.left (all-front (row_true (bit model)) (rows_from tables.left 0 d.left) behind all)
        i (omega arith) (omega arith)

    pub model_right : (i : ℕ) → i < d.right → row_true (bit model) (row_at tables.right i) ≡ true
    model_right i b =
        numbered (row_true (bit model)) tables.right 0 d.right
        (all-front (row_true (bit model)) (rows_from tables.right 0 d.right) (rows_from tables.public 0 d.public) all_there)
        i (omega arith) (omega arith)

    pub model_public : (i : ℕ) → i < d.public → row_true (bit model) (row_at tables.public i) ≡ true
    model_public i b =
        numbered (row_true (bit model)) tables.public 0 d.public
        (all-behind (row_true (bit model)) (rows_from tables.right 0 d.right) (rows_from tables.public 0 d.public) all_there)
        i (omega arith) (omega arith)

  -- of unsatisfiable tables every assignment, and so every word as a model, makes some row false
  pub unsatisfiable_row : answer.verdict ≡ Unsatisfiable → (a : ℕ → Bool) → (r : Row) × In r (rows_of d tables) × (row_true a r ≡ false)
  unfolding all_true
  unsatisfiable_row e a = not-all-rows (row_true a) (rows_of d tables) ((demand2 d tables budget accepted).unsatisfiable e a)
