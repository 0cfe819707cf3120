-- States, and the run struct that holds one: document 01, "Giant step".
use Rattle.std.specs.Prelude.{ℕ, zero, suc, ◌-◌, Bool, true, false, List, [], ◌∷◌, ◌++◌, reverse, length, get_or, replicate}
use Rattle.dimensions.specs.Sizes.{most_variables}
use Rattle.state.specs.declared.Level.{Level}
use Rattle.state.specs.declared.Run.{Run}
use Rattle.state.specs.declared.Standing.{Standing}
use Rattle.state.specs.declared.Standing.TheVariants.{Open, Satisfied, Refuted}

-- a state: its standing, T, F, and the used levels, the last one first
pub record State : Type 0 where
  pub standing : Standing
  pub t : ℕ
  pub f : ℕ
  pub levels : List Level

-- T, F and levels empty, open
abbrev pub fresh : State
fresh = record { standing = Open; t = 0; f = 0; levels = [] }

-- the standing is satisfied
abbrev pub is_satisfied : Standing → Bool
is_satisfied Open = false
is_satisfied Satisfied = true
is_satisfied Refuted = false

-- the number of a standing, for hosts: "The run holds its standing, one of open, satisfied or refuted", in this order
abbrev pub standing_number : Standing → ℕ
standing_number Open = 0
standing_number Satisfied = 1
standing_number Refuted = 2

-- one thing of an open standing, another of a closed one
abbrev pub if_open {ℓ} : {A : Type ℓ} → Standing → A → A → A
if_open Open a b = a
if_open Satisfied a b = b
if_open Refuted a b = b

-- an unused level
abbrev pub none : Level
none = record { t = 0; f = 0; chosen = 0 }

-- the first d levels, the last of them first
abbrev pub levels_of : ℕ → List Level → List Level
levels_of zero levels = []
levels_of (suc d) levels = get_or levels d none ∷ levels_of d levels

-- the state that a run holds
abbrev pub state_of : Run → State
state_of run = record { standing = run.standing; t = run.t; f = run.f; levels = levels_of run.depth run.levels }

-- the run of n variables that holds the state, its unused levels zero
unfoldable pub run_of : ℕ → State → Run
run_of n s = record {
  n = n;
  standing = s.standing;
  t = s.t;
  f = s.f;
  depth = length s.levels;
  levels = reverse s.levels ++ replicate (most_variables - length s.levels) none;
}
