-- The tables that a repeat of a host reads: conditions that are dated later are not there yet, and one repeat more moves all dates by one. By
-- induction on the turns.
use mathlib.Core.Path.{◌≡◌, refl, ap, ap₂, ◌∙◌}
use mathlib.Core.Bool.{Bool, cond}
use mathlib.Core.List.{List, [], ◌∷◌}
use Prim.Native.Nat.{ℕ, suc, ◌+◌, ◌<◌}
use native.Mathlib.Omega.{arith}
use Rattle.words.proofs.Truth.{on}
use Rattle.dimensions.specs.declared.Dimensions.{Dimensions}
use Rattle.tables.specs.Tables.{Tables}
use Rattle.repeats.specs.Repeats.{long_enough}
use Rattle.late_runs.specs.Schedule.{tables_with, tables_at}
use Rattle.late_runs.specs.Host.{dated, Turn, Try, Call, Renew, room_for, conditions_in}
use Rattle.late_runs.proofs.Schedule.{not-due, due-later}

module _ (d : Dimensions) where
  -- conditions after more repeats are not there yet
  pub not_yet : (more : List Turn) (j k : ℕ) → j < k → (t : Tables) → tables_at d t (conditions_in d k more) j ≡ t
  unfolding conditions_in tables_at
  not_yet [] j k b t = refl
  not_yet (Renew c ∷ more) j k b t = rw (not-due (dated k c) j b)
  not_yet (Call times gates bytes wires ∷ more) j k b t =
      on (room_for d gates bytes wires) (λ e. rw e (not_yet more j (k + times) (omega arith) t)) (λ e. rw e (not_yet more j k b t))
  not_yet (Try a ∷ more) j k b t = on (long_enough d a) (λ e. rw e (not_yet more j (suc k) (omega arith) t)) (λ e. rw e (not_yet more j k b t))

  -- one repeat more on both sides
  pub shifted : (more : List Turn) (k j : ℕ) (t : Tables) → tables_at d t (conditions_in d (suc k) more) (suc j) ≡ tables_at d t (conditions_in d k more) j
  unfolding conditions_in tables_at
  shifted [] k j t = refl
  shifted (Renew c ∷ more) k j t = ap₂ (λ (b : Bool) (x : Tables). cond b x t) (due-later c k j) (shifted more k j (tables_with d t c))
  shifted (Call times gates bytes wires ∷ more) k j t =
      let one : suc k + times ≡ suc (k + times) = omega arith in
      on (room_for d gates bytes wires)
      (λ e. rw e (ap (λ (i : ℕ). tables_at d t (conditions_in d i more) (suc j)) one ∙ shifted more (k + times) j t))
      (λ e. rw e (shifted more k j t))
  shifted (Try a ∷ more) k j t = on (long_enough d a) (λ e. rw e (shifted more (suc k) j t)) (λ e. rw e (shifted more k j t))

-- the date of conditions after a first attempt, by whether this is long enough
abbrev pub first_date : Bool → ℕ
first_date long = cond long 1 0
