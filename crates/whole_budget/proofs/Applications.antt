-- What any list of attempts comes to, from a well-formed state on: as many applications as there are long enough attempts, at most as many as the budget, each
-- a giant step, closed states too. By induction on the attempts. Then the plain run under the same budget, which ends in the state of the last one: a closed
-- state stays as it is.
use mathlib.Core.Path.{◌≡◌, refl, sym, ap, ◌∙◌}
use mathlib.Core.Bool.{true, false, cond}
use mathlib.Core.List.{List, [], ◌∷◌}
use Prim.Native.Nat.{ℕ, zero, suc, min, ◌+◌, ◌<◌}
use native.Mathlib.Nat.{le_of_suc-le-suc, not-suc-le-zero}
use native.Mathlib.Omega.{arith}
use lib.ListN.{length, get_or, replicate, length-replicate}
use lib.Dec.{leb}
use borrow.Author.Tests.{le-leb}
use Rattle.words.specs.declared.Row.{Row}
use Rattle.words.proofs.Truth.{on, and_i}
use Rattle.dimensions.specs.declared.Dimensions.{Dimensions}
use Rattle.dimensions.specs.Sizes.{state_wire_count, input_wires}
use Rattle.tables.specs.Tables.{Tables}
use Rattle.tables.specs.Rows.{rows_of}
use Rattle.state.specs.declared.Run.{Run}
use Rattle.state.specs.declared.Standing.{Standing}
use Rattle.state.specs.declared.Standing.TheVariants.{Open, Satisfied, Refuted}
use Rattle.state.specs.State.{State, fresh, run_of, if_open}
use Rattle.state.specs.WellFormed.{well_formed_state}
use Rattle.scan.specs.Rules.{rule}
use Rattle.solver.specs.Step.{always, later, follow, step, after}
use Rattle.solver.specs.Entries.{Ran, run_from}
use Rattle.solver.proofs.StepLaws.{step-well_formed, fresh-well_formed}
use Rattle.netlist.specs.Netlist.{gates_on}
use Rattle.repeats.specs.Application.{Applied}
use Rattle.repeats.specs.Repeats.{Accepts, Attempt, attempted, long_enough, long_ones}
use Rattle.repeats.proofs.Applying.{long_gives, short-gives}
use Rattle.whole_budget.specs.Applications.{attempt_gives, applications, whole_runs, last_of, enough}

-- ---- giant steps, closed or not

module _ (d : Dimensions) (tables : Tables) where
  -- the rows of the tables, the same at every step
  abbrev pub rows : ℕ → List Row
  rows = always (rows_of d tables)

  abbrev next : State → State
  next s = step d.n (rows_of d tables) s

  -- the runs after one step, two, … k
  unfoldable pub walked : State → ℕ → List Run
  walked s zero = []
  walked s (suc k) = run_of d.n (next s) ∷ walked (next s) k

  -- they are as many
  pub walked-length : (s : State) (k : ℕ) → length (walked s k) ≡ k
  unfolding walked
  walked-length s zero = refl
  walked-length s (suc k) = ap suc (walked-length (next s) k)

  -- each is the run of the state after as many giant steps
  pub walked_at : (s : State) (k i : ℕ) (none : Run) → i < k → get_or (walked s k) i none ≡ run_of d.n (after d.n rows (suc i) s)
  unfolding walked after
  walked_at s zero i none h = absurd (not-suc-le-zero h)
  walked_at s (suc k) zero none h = refl
  walked_at s (suc k) (suc i) none h = walked_at (next s) k i none (le_of_suc-le-suc h)

  -- and so is the last, or the one at the start
  pub walked-last : (s : State) (k : ℕ) → last_of (run_of d.n s) (walked s k) ≡ run_of d.n (after d.n rows k s)
  unfolding walked after last_of
  walked-last s zero = refl
  walked-last s (suc k) = walked-last (next s) k

  -- ---- the attempts

  -- how many are applications
  abbrev pub number : List Attempt → ℕ → ℕ
  number attempts budget = min (long_ones d attempts) budget

  none-walked : (s : State) (k : ℕ) → k ≡ 0 → [] ≡ walked s k
  unfolding walked
  none-walked s k e = ap (walked s) (sym e)

  -- the applications that come of attempts from a well-formed state on are as many giant steps
  pub applications_are : Accepts d tables → (attempts : List Attempt) (budget : ℕ) (s : State) → well_formed_state d.n s ≡ true
      → applications d tables budget (run_of d.n s) attempts ≡ walked s (number attempts budget)
  unfolding applications long_ones walked
  applications_are acc [] budget s w = none-walked s (number [] budget) (omega arith)
  applications_are acc (a ∷ more) zero s w = none-walked s (number (a ∷ more) zero) (omega arith)
  applications_are acc (a ∷ more) (suc rest) s w =
      on (long_enough d a)
      (λ e.
      to (long_gives d tables acc s w a e)
      ∙ ap (λ (l : List Run). run_of d.n (next s) ∷ l)
      (applications_are acc more rest (next s) (step-well_formed d.n (rows_of d tables) s w))
      ∙ ap (walked s) (more_by e))
      (λ e.
      let g = short-gives d tables acc s w a e in
      to g.1 ∙ applications_are acc more (suc rest) s w ∙ ap (walked s) (same_by e))
    where
      again : Run → List Run
      again r = applications d tables (suc rest) r more

      further : Run → List Run
      further r = applications d tables rest r more

      to : {x : Applied} → attempted d tables (run_of d.n s) a ≡ x
          → attempt_gives (attempted d tables (run_of d.n s) a) again further ≡ attempt_gives x again further
      to e = ap (λ (x : Applied). attempt_gives x again further) e

      more_by : long_enough d a ≡ true → suc (number more rest) ≡ min (cond (long_enough d a) (suc (long_ones d more)) (long_ones d more)) (suc rest)
      more_by e = rw e (omega arith)

      same_by : long_enough d a ≡ false → number more (suc rest) ≡ min (cond (long_enough d a) (suc (long_ones d more)) (long_ones d more)) (suc rest)
      same_by e = rw e (omega arith)

-- ---- just enough room

zeros_fit : (k : ℕ) → leb k (length (replicate {A = ℕ} k 0)) ≡ true
zeros_fit k = le-leb k (length (replicate {A = ℕ} k 0)) (omega (arith, length-replicate {A = ℕ} k 0))

-- an attempt with just enough room is long enough
pub enough_long : (d : Dimensions) → long_enough d (enough d) ≡ true
enough_long d = and_i (and_i (zeros_fit (input_wires d)) (zeros_fit (input_wires d + length (gates_on d))))
    (le-leb (state_wire_count d.n) (state_wire_count d.n + 1) (omega arith))

-- as many long enough attempts as there are
pub all_long : (d : Dimensions) (a : Attempt) → long_enough d a ≡ true → (k : ℕ) → long_ones d (replicate k a) ≡ k
unfolding long_ones
all_long d a e zero = refl
all_long d a e (suc k) = rw e (ap suc (all_long d a e k))

-- the last run of as many attempts with just enough room as the budget: the state after as many giant steps
pub enough-last : (d : Dimensions) (tables : Tables) → Accepts d tables → (budget : ℕ)
    → last_of (run_of d.n fresh) (whole_runs d tables budget (replicate budget (enough d))) ≡ run_of d.n (after d.n (rows d tables) budget fresh)
enough-last d tables acc budget =
    let attempts = replicate budget (enough d) in
    let k : number d tables attempts budget ≡ budget = omega (arith, all_long d (enough d) (enough_long d) budget) in
    ap (last_of (run_of d.n fresh))
    (applications_are d tables acc attempts budget fresh (fresh-well_formed d.n) ∙ ap (walked d tables fresh) k)
    ∙ walked-last d tables fresh budget

-- ---- the plain run under the same budget

module _ (n : ℕ) where
  closed_stays : (k : ℕ) (rows : ℕ → List Row) (s : State) → ((r : List Row) → step n r s ≡ s) → after n rows k s ≡ s
  unfolding after
  closed_stays zero rows s h = refl
  closed_stays (suc k) rows s h = ap (after n (later rows) k) (h (rows 0)) ∙ closed_stays k (later rows) s h

  -- the budgeted run ends in the state after as many steps as the budget, though it takes no more once it is closed
  pub final-after : (budget : ℕ) (rows : ℕ → List Row) (s : State) → (run_from n rows budget s).final ≡ after n rows budget s
  unfolding run_from after step
  final-after zero rows s = refl
  final-after (suc budget) rows s = go s.standing refl (final-after budget (later rows) (step n (rows 0) s))
    where
      ran : Standing → Ran
      ran st = elim st [
        | Open ↦ let r = run_from n (later rows) budget (step n (rows 0) s) in record { steps = suc r.steps; final = r.final }
        | Satisfied ↦ record { steps = 0; final = s }
        | Refuted ↦ record { steps = 0; final = s }
      ]

      stays : (st : Standing) → s.standing ≡ st → ((x : State) → if_open st x s ≡ s) → (r : List Row) → step n r s ≡ s
      stays st e h r = ap (λ (y : Standing). if_open y (follow s (rule n r s.t s.f)) s) e ∙ h _

      go : (st : Standing) → s.standing ≡ st → (run_from n (later rows) budget (step n (rows 0) s)).final ≡ after n (later rows) budget (step n (rows 0) s)
          → (ran s.standing).final ≡ after n rows (suc budget) s
      go Open e h = ap (λ (st : Standing). (ran st).final) e ∙ h
      go Satisfied e h = ap (λ (st : Standing). (ran st).final) e ∙ sym (closed_stays (suc budget) rows s (stays Satisfied e (λ x. refl)))
      go Refuted e h = ap (λ (st : Standing). (ran st).final) e ∙ sym (closed_stays (suc budget) rows s (stays Refuted e (λ x. refl)))
