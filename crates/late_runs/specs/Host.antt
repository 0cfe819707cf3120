-- What a host does with its tables and its run: calls in any order. Document 02, Req 06, and document 01, "Circuit".
-- Ask: From which state are steps counted?
use Rattle.std.specs.Prelude.{ℕ, zero, suc, ◌+◌, ◌-◌, ◌*◌, min, Bool, ◌&&◌, cond, List, [], ◌∷◌, ◌++◌, leb, length, replicate}
use Rattle.refusals.specs.Checks.{given}
use Rattle.dimensions.specs.declared.Dimensions.{Dimensions}
use Rattle.dimensions.specs.Sizes.{ceiling}
use Rattle.tables.specs.Tables.{Tables}
use Rattle.state.specs.declared.Run.{Run}
use Rattle.state.specs.State.{fresh, run_of}
use Rattle.solver.specs.Entries.{stepped}
use Rattle.late.specs.declared.Condition.{Condition}
use Rattle.late.specs.Replacement.{tables_after}
use Rattle.repeats.specs.Repeats.{Attempt, Repeat, attempted, comes_of, long_enough}
use Rattle.repeats.specs.Repeating.{whole, made, allowed, repeated}
use Rattle.late_runs.specs.Schedule.{Dated}

-- a late condition after a number of steps
abbrev pub dated : ℕ → Condition → Dated
dated k c = record { steps = k; condition = c }

-- ---- steps and late conditions

-- a call of `step`, or of `replace`
pub data Action : Type 0 where
  Step : Action
  Replace : Condition → Action

-- the tables that a host holds, and its run
pub record Host : Type 0 where
  pub tables : Tables
  pub run : Run

-- what each call leaves, refusals included
unfoldable pub act : Dimensions → Host → Action → Host
unfolding stepped tables_after
act d h Step = record { tables = h.tables; run = (stepped d h.tables h.run).run }
act d h (Replace c) = record { tables = tables_after d h.tables h.run c; run = h.run }

-- one call after the other
unfoldable pub play : Dimensions → Host → List Action → Host
unfolding act
play d h [] = h
play d h (a ∷ more) = play d (act d h a) more

-- the host before its first call, with the fresh run
abbrev pub started : Dimensions → Tables → Host
started d tables = record { tables = tables; run = run_of d.n fresh }

-- how many steps there are
unfoldable pub steps_of : List Action → ℕ
steps_of [] = 0
steps_of (Step ∷ more) = suc (steps_of more)
steps_of (Replace c ∷ more) = steps_of more

-- the late conditions, each with the number of steps before it, k of them before these calls
unfoldable pub conditions_of : ℕ → List Action → List Dated
conditions_of k [] = []
conditions_of k (Step ∷ more) = conditions_of (suc k) more
conditions_of k (Replace c ∷ more) = dated k c ∷ conditions_of k more

-- ---- attempts, calls of `repeat` and late conditions

-- an attempt to apply the circuit; a call of `repeat`, a number of times, with the gate words, bytes and wires that the host lends; or one
-- of `replace`
pub data Turn : Type 0 where
  Try : Attempt → Turn
  Call : (times : ℕ) (gates bytes wires : List ℕ) → Turn
  Renew : Condition → Turn

-- the repeats that a call makes: none where it is refused
abbrev pub made_by : Dimensions → Tables → ℕ → List ℕ → List ℕ → List ℕ → Run → List Repeat
made_by d tables times gates bytes wires run =
    given (allowed d tables times gates bytes wires run) (made d tables times bytes wires run) (λ refusal. [])

-- the repeats that the turns come to, with a number of repeats left, each over the tables as they are; a call asks for no more than are
-- left, its run and its number of repeats are what it gives, and its mark that is 1 is the last
unfoldable pub repeats_by : Dimensions → Tables → ℕ → Run → List Turn → List Repeat
unfolding tables_after repeated
repeats_by d tables budget run [] = []
repeats_by d tables budget run (Renew c ∷ more) = repeats_by d (tables_after d tables run c) budget run more
repeats_by d tables budget run (Call times gates bytes wires ∷ more) =
    let r = repeated d tables (min times budget) gates bytes wires run in
    made_by d tables (min times budget) gates bytes wires run
    ++ cond r.mark [] (repeats_by d tables (budget - r.repeats) r.run more)
repeats_by d tables zero run (Try a ∷ more) = []
repeats_by d tables (suc rest) run (Try a ∷ more) =
    comes_of (attempted d tables run a)
    (λ next. repeats_by d tables (suc rest) next more)
    (λ next. repeats_by d tables rest next more)

-- how many the host counts: one for an attempt that is taken, and the number that each call gives, added up
unfoldable pub count_by : Dimensions → Tables → ℕ → Run → List Turn → ℕ
unfolding tables_after repeated
count_by d tables budget run [] = 0
count_by d tables budget run (Renew c ∷ more) = count_by d (tables_after d tables run c) budget run more
count_by d tables budget run (Call times gates bytes wires ∷ more) =
    let r = repeated d tables (min times budget) gates bytes wires run in
    r.repeats + cond r.mark 0 (count_by d tables (budget - r.repeats) r.run more)
count_by d tables zero run (Try a ∷ more) = 0
count_by d tables (suc rest) run (Try a ∷ more) =
    let r = attempted d tables run a in
    given r.outcome (suc (cond r.mark 0 (count_by d tables rest r.run more)))
    (λ refusal. count_by d tables (suc rest) r.run more)

-- buffers with which a call is taken: gate words for the ceiling, and bytes and wires that are long enough
abbrev pub room_for : Dimensions → List ℕ → List ℕ → List ℕ → Bool
room_for d gates bytes wires = leb (3 * ceiling d) (length gates) && long_enough d (whole d bytes wires)

-- the attempts among the turns: a call is `times` of them, a refused one none
unfoldable pub attempts_in : Dimensions → List Turn → List Attempt
attempts_in d [] = []
attempts_in d (Renew c ∷ more) = attempts_in d more
attempts_in d (Call times gates bytes wires ∷ more) =
    cond (room_for d gates bytes wires) (replicate times (whole d bytes wires)) [] ++ attempts_in d more
attempts_in d (Try a ∷ more) = a ∷ attempts_in d more

-- the late conditions, each with the number of repeats before it: what is refused is none
unfoldable pub conditions_in : Dimensions → ℕ → List Turn → List Dated
conditions_in d k [] = []
conditions_in d k (Renew c ∷ more) = dated k c ∷ conditions_in d k more
conditions_in d k (Call times gates bytes wires ∷ more) = conditions_in d (cond (room_for d gates bytes wires) (k + times) k) more
conditions_in d k (Try a ∷ more) = conditions_in d (cond (long_enough d a) (suc k) k) more
