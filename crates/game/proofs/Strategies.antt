-- The game's value is who can force the aim: a winning plan is put together from the plans for one variable fewer. And it is the quantified formula's truth.
use Prim.Native.Nat.{ℕ}
use mathlib.Core.Path.{◌≡◌}
use mathlib.Core.Bool.{Bool, true, false, ◌||◌, or-true}
use mathlib.Core.List.{List, [], ◌∷◌}
use Rattle.words.proofs.Truth.{and_l, and_r, and_i, or_l, or_r, on}
use Rattle.words.specs.declared.Row.{Row}
use Rattle.truth.specs.Truth.{all_true}
use Rattle.qdimacs.specs.Text.{GameTurn}
use Rattle.game.specs.Game.{fixed, decided, forced}
use Rattle.game.specs.Strategies.{Plan, after_value, played, ExistentialForces, UniversalForces, CanForce, Formula}

-- a plan that begins with a value
abbrev start : Bool → Plan → Plan
start b p [] = b
start b p (c ∷ values) = p values

-- a plan for each value of the other side
abbrev join : Plan → Plan → Plan
join p q [] = false
join p q (true ∷ values) = p values
join p q (false ∷ values) = q values

module _ (rows : List Row) where
  -- ---- one turn

  module _ (v : ℕ) (ks : List GameTurn) (a : ℕ → Bool) where
    abbrev turn : Bool → GameTurn
    turn u = record { variable = v; universal = u }

    -- what is forced after true and after false
    abbrev yes' : Bool
    yes' = forced rows ks (fixed a v true)

    abbrev no' : Bool
    no' = forced rows ks (fixed a v false)

    -- the existential side answers both values of the other
    existential_both : ExistentialForces rows ks (fixed a v true) → ExistentialForces rows ks (fixed a v false) → ExistentialForces rows (turn true ∷ ks) a
    unfolding played
    existential_both x y = (join x.0 y.0, λ u. go u (u []))
      where
        go : (u : Plan) (b : Bool) → all_true (played ks (after_value (join x.0 y.0) b) (after_value u b) (fixed a v b)) rows ≡ true
        go u true = x.1 (after_value u true)
        go u false = y.1 (after_value u false)

    -- or has a value of its own
    existential_one : (b : Bool) → ExistentialForces rows ks (fixed a v b) → ExistentialForces rows (turn false ∷ ks) a
    unfolding played
    existential_one b x = (start b x.0, λ u. x.1 (after_value u b))

    universal_both : UniversalForces rows ks (fixed a v true) → UniversalForces rows ks (fixed a v false) → UniversalForces rows (turn false ∷ ks) a
    unfolding played
    universal_both x y = (join x.0 y.0, λ e. go e (e []))
      where
        go : (e : Plan) (b : Bool) → all_true (played ks (after_value e b) (after_value (join x.0 y.0) b) (fixed a v b)) rows ≡ false
        go e true = x.1 (after_value e true)
        go e false = y.1 (after_value e false)

    universal_one : (b : Bool) → UniversalForces rows ks (fixed a v b) → UniversalForces rows (turn true ∷ ks) a
    unfolding played
    universal_one b x = (start b x.0, λ e. x.1 (after_value e b))

    existential_turn : (yes' ≡ true → ExistentialForces rows ks (fixed a v true)) → (no' ≡ true → ExistentialForces rows ks (fixed a v false))
        → (u : Bool) → decided u yes' no' ≡ true → ExistentialForces rows (turn u ∷ ks) a
    existential_turn x y true h = existential_both (x (and_l yes' no' h)) (y (and_r yes' no' h))
    existential_turn x y false h = on yes' (λ q. existential_one true (x q)) (λ q. existential_one false (y (rw q at h)))

    universal_turn : (yes' ≡ false → UniversalForces rows ks (fixed a v true)) → (no' ≡ false → UniversalForces rows ks (fixed a v false))
        → (u : Bool) → decided u yes' no' ≡ false → UniversalForces rows (turn u ∷ ks) a
    universal_turn x y true h = on yes' (λ q. universal_one false (y (rw q at h))) (λ q. universal_one true (x q))
    universal_turn x y false h = universal_both (x (or_l yes' no' h)) (y (or_r yes' no' h))

    formula_turn : (yes' ≡ true → Formula rows ks (fixed a v true)) → (no' ≡ true → Formula rows ks (fixed a v false))
        → (u : Bool) → decided u yes' no' ≡ true → Formula rows (turn u ∷ ks) a
    formula_turn x y true h = go
      where
        go : (b : Bool) → Formula rows ks (fixed a v b)
        go true = x (and_l yes' no' h)
        go false = y (and_r yes' no' h)
    formula_turn x y false h = on yes' (λ q. (true, x q)) (λ q. (false, y (rw q at h)))

    forced-turn : (Formula rows ks (fixed a v true) → yes' ≡ true) → (Formula rows ks (fixed a v false) → no' ≡ true)
        → (u : Bool) → Formula rows (turn u ∷ ks) a → decided u yes' no' ≡ true
    forced-turn x y true h = and_i (x (h true)) (y (h false))
    forced-turn x y false h = go h.0 h.1
      where
        go : (b : Bool) → Formula rows ks (fixed a v b) → yes' || no' ≡ true
        go true z = rw (x z)
        go false z = rw (y z) (or-true yes')

  -- ---- all turns

  existential_plan : (ks : List GameTurn) (a : ℕ → Bool) → forced rows ks a ≡ true → ExistentialForces rows ks a
  unfolding forced played
  existential_plan [] a h = ((λ values. false), λ u. h)
  existential_plan (k ∷ ks) a h =
      existential_turn k.variable ks a (existential_plan ks (fixed a k.variable true)) (existential_plan ks (fixed a k.variable false))
      k.universal h

  universal_plan : (ks : List GameTurn) (a : ℕ → Bool) → forced rows ks a ≡ false → UniversalForces rows ks a
  unfolding forced played
  universal_plan [] a h = ((λ values. false), λ e. h)
  universal_plan (k ∷ ks) a h =
      universal_turn k.variable ks a (universal_plan ks (fixed a k.variable true)) (universal_plan ks (fixed a k.variable false)) k.universal h

  -- one side can force its aim, and `forced` tells which
  pub forces : (ks : List GameTurn) (a : ℕ → Bool) → CanForce rows ks a
  forces ks a = record { existential = existential_plan ks a; universal = universal_plan ks a }

  -- the quantified formula is true exactly if the existential side can force its aim
  pub forced_formula : (ks : List GameTurn) (a : ℕ → Bool) → forced rows ks a ≡ true → Formula rows ks a
  unfolding forced
  forced_formula [] a h = h
  forced_formula (k ∷ ks) a h =
      formula_turn k.variable ks a (forced_formula ks (fixed a k.variable true)) (forced_formula ks (fixed a k.variable false)) k.universal h

  pub formula_forced : (ks : List GameTurn) (a : ℕ → Bool) → Formula rows ks a → forced rows ks a ≡ true
  unfolding forced
  formula_forced [] a h = h
  formula_forced (k ∷ ks) a h =
      forced-turn k.variable ks a (formula_forced ks (fixed a k.variable true)) (formula_forced ks (fixed a k.variable false)) k.universal h
