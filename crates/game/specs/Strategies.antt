-- What it means to force an aim: a plan that reaches it whatever the other side does. And the same as a formula with quantifiers along the
-- turns.
-- Ask: Is "can force" a plan against every plan?
use Rattle.std.specs.Prelude.{ℕ, ◌≡◌, Bool, true, false, List, [], ◌∷◌, Some, None}
use Rattle.words.specs.declared.Row.{Row}
use Rattle.truth.specs.Truth.{all_true}
use Rattle.qdimacs.specs.Text.{GameTurn}
use Rattle.game.specs.Game.{fixed, unfixed, forced}
use Rattle.game.specs.declared.Winner.{Winner}
use Rattle.game.specs.declared.Winner.TheVariants.{Existential, Universal}

-- ---- plans

-- a side's plan: the value that it fixes, from all values fixed before, the first first
abbrev pub Plan : Type 0
Plan = List Bool → Bool

-- what is left of a plan once a value is fixed
abbrev pub after_value : Plan → Bool → Plan
after_value plan b values = plan (b ∷ values)

-- the value fixed at a turn; e is the existential side's plan, u the universal side's
abbrev pub moved : Bool → Plan → Plan → Bool
moved true e u = u []
moved false e u = e []

-- the assignment that two plans lead to
unfoldable pub played : List GameTurn → Plan → Plan → (ℕ → Bool) → ℕ → Bool
played [] e u a = a
played (k ∷ ks) e u a =
    played ks (after_value e (moved k.universal e u)) (after_value u (moved k.universal e u))
    (fixed a k.variable (moved k.universal e u))

-- the existential side has a plan that makes all rows true against every plan of the other
abbrev pub ExistentialForces : List Row → List GameTurn → (ℕ → Bool) → Type 0
ExistentialForces rows ks a = (e : Plan) × ((u : Plan) → all_true (played ks e u a) rows ≡ true)

-- the universal side has one against it
abbrev pub UniversalForces : List Row → List GameTurn → (ℕ → Bool) → Type 0
UniversalForces rows ks a = (u : Plan) × ((e : Plan) → all_true (played ks e u a) rows ≡ false)

-- one side can force its aim, and which one `forced` tells
pub record CanForce (rows : List Row) (ks : List GameTurn) (a : ℕ → Bool) : Type 0 where
  pub existential : forced rows ks a ≡ true → ExistentialForces rows ks a
  pub universal : forced rows ks a ≡ false → UniversalForces rows ks a

-- what an answer says of a game, which has a first turn: its winner can force its aim; where the winner moves first, still with the value
-- given, and false is given only where true does not serve
abbrev pub Holds : List Row → List GameTurn → Winner → Type 0
Holds rows [] w = ⊥
Holds rows (k ∷ ks) (Existential (Some (v, b))) =
    (k.universal ≡ false) × (v ≡ k.variable) × ExistentialForces rows ks (fixed unfixed v b)
    × (b ≡ false → ExistentialForces rows ks (fixed unfixed v true) → ⊥)
Holds rows (k ∷ ks) (Existential None) = (k.universal ≡ true) × ExistentialForces rows (k ∷ ks) unfixed
Holds rows (k ∷ ks) (Universal (Some (v, b))) =
    (k.universal ≡ true) × (v ≡ k.variable) × UniversalForces rows ks (fixed unfixed v b)
    × (b ≡ false → UniversalForces rows ks (fixed unfixed v true) → ⊥)
Holds rows (k ∷ ks) (Universal None) = (k.universal ≡ false) × UniversalForces rows (k ∷ ks) unfixed

-- ---- quantifiers

-- for both values, or for one
abbrev pub QuantifiedBy : Bool → (Bool → Type 0) → Type 0
QuantifiedBy true p = (b : Bool) → p b
QuantifiedBy false p = (b : Bool) × p b

-- the formula: its prefix along the turns, all rows true after it
abbrev pub Formula : List Row → List GameTurn → (ℕ → Bool) → Type 0
Formula rows [] a = all_true a rows ≡ true
Formula rows (k ∷ ks) a = QuantifiedBy k.universal (λ b. Formula rows ks (fixed a k.variable b))
