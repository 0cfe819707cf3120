-- Any list of attempts from an open state: as many repeats as there are long enough attempts, at most as many as the budgeted run takes steps,
-- each a giant step with its mark. By induction on the attempts.
use mathlib.Core.Path.{◌≡◌, refl, sym, ap, ◌∙◌}
use mathlib.Core.Bool.{Bool, true, false, cond, true≢false}
use mathlib.Core.List.{List, [], ◌∷◌}
use Prim.Native.Nat.{ℕ, zero, suc, min, ◌<◌}
use native.Mathlib.Nat.{le_of_suc-le-suc, not-suc-le-zero}
use native.Mathlib.Omega.{arith}
use lib.ListN.{length, get_or}
use Rattle.words.specs.declared.Row.{Row}
use Rattle.dimensions.specs.declared.Dimensions.{Dimensions}
use Rattle.tables.specs.Tables.{Tables}
use Rattle.state.specs.declared.Standing.{Standing}
use Rattle.state.specs.declared.Standing.TheVariants.{Open, Satisfied, Refuted}
use Rattle.state.specs.State.{State, run_of, if_open}
use Rattle.solver.specs.Step.{later, step, after}
use Rattle.solver.specs.Entries.{Ran, run_from}
use Rattle.state.specs.WellFormed.{well_formed_state}
use Rattle.solver.proofs.StepLaws.{step-well_formed}
use Rattle.wires.specs.Layout.{upto}
use Rattle.netlist.specs.Outputs.{closed}
use Rattle.repeats.specs.Repeats.{Attempt, Repeat, returned, marks, last_run, later_tables, repeats, long_enough, long_ones}
use Rattle.demand3.specs.Demand3.{rows_by_step, AllAccepts}
use Rattle.repeats.proofs.Applying.{comes, attempt_is}

-- ---- closed states and the budgeted run

-- a standing that is not closed is open
pub closed_open : (st : Standing) → if_open st false true ≡ false → st ≡ Open
closed_open Open e = refl
closed_open Satisfied e = absurd (true≢false e)
closed_open Refuted e = absurd (true≢false e)

-- an open standing is not closed
pub open_closed : {st : Standing} → st ≡ Open → if_open st false true ≡ false
open_closed e = ap (λ (x : Standing). if_open x false true) e

module _ (n : ℕ) (rows : ℕ → List Row) where
  -- the run's first step, by the standing
  abbrev ran_by : ℕ → State → Standing → Ran
  ran_by budget s st = elim st [
    | Open ↦ let r = run_from n (later rows) budget (step n (rows 0) s) in record { steps = suc r.steps; final = r.final }
    | Satisfied ↦ record { steps = 0; final = s }
    | Refuted ↦ record { steps = 0; final = s }
  ]

  -- with budget left, the run from an open state takes one step more than the run with one less, and the later rows, from the state after that step
  pub steps_open : (budget : ℕ) (s : State) → s.standing ≡ Open → (run_from n rows (suc budget) s).steps
      ≡ suc (run_from n (later rows) budget (step n (rows 0) s)).steps
  unfolding run_from
  steps_open budget s e = ap (λ (st : Standing). (ran_by budget s st).steps) e

  -- from a closed state the run takes no step
  pub steps_closed : (budget : ℕ) (s : State) → closed s ≡ true → (run_from n rows budget s).steps ≡ 0
  unfolding run_from
  steps_closed zero s e = refl
  steps_closed (suc budget) s e = go s.standing e
    where
      go : (st : Standing) → if_open st false true ≡ true → (ran_by budget s st).steps ≡ 0
      go Open h = absurd (true≢false (sym h))
      go Satisfied h = refl
      go Refuted h = refl

-- ---- the attempts

module _ (d : Dimensions) where
  -- the first step
  abbrev first : (ℕ → Tables) → State → State
  first tables s = step d.n (rows_by_step d tables 0) s

  -- k repeats from a state
  unfoldable pub repeated : (ℕ → Tables) → State → ℕ → List Repeat
  repeated tables s zero = []
  repeated tables s (suc k) = returned d.n (first tables s) ∷ repeated (later_tables tables) (first tables s) k

  pub repeated-length : (tables : ℕ → Tables) (s : State) (k : ℕ) → length (repeated tables s k) ≡ k
  unfolding repeated
  repeated-length tables s zero = refl
  repeated-length tables s (suc k) = ap suc (repeated-length (later_tables tables) (first tables s) k)

  pub repeated-at : (tables : ℕ → Tables) (s : State) (k i : ℕ) (none : Repeat) → i < k
      → get_or (repeated tables s k) i none ≡ returned d.n (after d.n (rows_by_step d tables) (suc i) s)
  unfolding repeated after
  repeated-at tables s zero i none h = absurd (not-suc-le-zero h)
  repeated-at tables s (suc k) zero none h = refl
  repeated-at tables s (suc k) (suc i) none h = repeated-at (later_tables tables) (first tables s) k i none (le_of_suc-le-suc h)

  pub repeated-marks : (tables : ℕ → Tables) (s : State) (k : ℕ) → marks (repeated tables s k)
      ≡ upto (λ i. closed (after d.n (rows_by_step d tables) (suc i) s)) k
  unfolding repeated after upto
  repeated-marks tables s zero = refl
  repeated-marks tables s (suc k) = ap (λ (l : List Bool). closed (first tables s) ∷ l) (repeated-marks (later_tables tables) (first tables s) k)

  pub repeated-last : (tables : ℕ → Tables) (s : State) (k : ℕ) → last_run (run_of d.n s) (repeated tables s k)
      ≡ run_of d.n (after d.n (rows_by_step d tables) k s)
  unfolding repeated after last_run
  repeated-last tables s zero = refl
  repeated-last tables s (suc k) = repeated-last (later_tables tables) (first tables s) k

  -- how many there are
  abbrev pub number : (ℕ → Tables) → List Attempt → ℕ → State → ℕ
  number tables attempts budget s = min (long_ones d attempts) (run_from d.n (rows_by_step d tables) budget s).steps

  none : (tables : ℕ → Tables) (s : State) (k : ℕ) → k ≡ 0 → [] ≡ repeated tables s k
  unfolding repeated
  none tables s k e = ap (repeated tables s) (sym e)

  no_budget : (tables : ℕ → Tables) (attempts : List Attempt) (s : State) → number tables attempts zero s ≡ 0
  unfolding run_from
  no_budget tables attempts s = omega arith

  -- a repeat at an open state: it is the last, or the later ones follow
  repeat : (tables : ℕ → Tables) (more : List Attempt) (rest : ℕ) (s : State) → s.standing ≡ Open
      → ((first tables s).standing ≡ Open → repeats d (later_tables tables) rest (run_of d.n (first tables s)) more
      ≡ repeated (later_tables tables) (first tables s) (number (later_tables tables) more rest (first tables s)))
      → (c : Bool) → closed (first tables s) ≡ c
      → returned d.n (first tables s) ∷ cond c [] (repeats d (later_tables tables) rest (run_of d.n (first tables s)) more)
      ≡ repeated tables s (min (suc (long_ones d more)) (run_from d.n (rows_by_step d tables) (suc rest) s).steps)
  unfolding repeated
  repeat tables more rest s o h true e =
      let rows = rows_by_step d tables in
      let k : min (suc (long_ones d more)) (run_from d.n rows (suc rest) s).steps ≡ 1 =
      omega (arith, steps_open d.n rows rest s o, steps_closed d.n (later rows) rest (first tables s) e) in
      ap (repeated tables s) (sym k)
  repeat tables more rest s o h false e =
      let rows = rows_by_step d tables in
      let k : min (suc (long_ones d more)) (run_from d.n rows (suc rest) s).steps ≡ suc (number (later_tables tables) more rest (first tables s)) =
      omega (arith, steps_open d.n rows rest s o) in
      ap (λ (l : List Repeat). returned d.n (first tables s) ∷ l) (h (closed_open (first tables s).standing e)) ∙ ap (repeated tables s) (sym k)

  pub repeats_are : (attempts : List Attempt) (tables : ℕ → Tables) → AllAccepts d tables → (budget : ℕ) (s : State)
      → well_formed_state d.n s ≡ true → s.standing ≡ Open
      → repeats d tables budget (run_of d.n s) attempts ≡ repeated tables s (number tables attempts budget s)
  unfolding repeats long_ones
  repeats_are [] tables acc budget s w o = none tables s _ (omega arith)
  repeats_are (a ∷ more) tables acc zero s w o = none tables s _ (no_budget tables (a ∷ more) s)
  repeats_are (a ∷ more) tables acc (suc rest) s w o =
      attempt_is d (tables 0) (acc 0) s w (λ next. repeats d tables (suc rest) next more) (λ next. repeats d (later_tables tables) rest next more) a
      ∙ go (repeats_are more tables acc (suc rest) s w o)
      (λ h. repeats_are more (later_tables tables) (λ i. acc (suc i)) rest (first tables s)
      (step-well_formed d.n (rows_by_step d tables 0) s w) h) (long_enough d a)
    where
      go : repeats d tables (suc rest) (run_of d.n s) more ≡ repeated tables s (number tables more (suc rest) s)
          → ((first tables s).standing ≡ Open
          → repeats d (later_tables tables) rest (run_of d.n (first tables s)) more ≡ repeated (later_tables tables) (first tables s)
          (number (later_tables tables) more rest (first tables s)))
          → (long : Bool) → comes d (tables 0) (acc 0) s w (λ next. repeats d tables (suc rest) next more)
          (λ next. repeats d (later_tables tables) rest next more) long
          ≡ repeated tables s (min (cond long (suc (long_ones d more)) (long_ones d more)) (run_from d.n (rows_by_step d tables) (suc rest) s).steps)
      go same further true = repeat tables more rest s o further (closed (first tables s)) refl
      go same further false = same
