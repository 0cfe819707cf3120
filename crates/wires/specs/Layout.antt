-- The wires of rows and of a state, in order: document 01, "Circuit". Variables, depths and levels are counted from 0.
-- Ask: Are the wires in document 01's order?
use Rattle.std.specs.Prelude.{ℕ, zero, suc, Bool, true, false, cond, List, [], ◌∷◌, ◌++◌, eqb, length}
use Rattle.words.specs.declared.Row.{Row}
use Rattle.words.specs.Sets.{bit}
use Rattle.state.specs.declared.Level.{Level}
use Rattle.state.specs.declared.Standing.{Standing}
use Rattle.state.specs.declared.Standing.TheVariants.{Open, Satisfied, Refuted}
use Rattle.state.specs.State.{State, is_satisfied}

-- f 0, .. , f (n - 1)
unfoldable pub upto : (ℕ → Bool) → ℕ → List Bool
upto f zero = []
upto f (suc n) = f zero ∷ upto (λ i. f (suc i)) n

-- the lists f 0, .. , f (n - 1), joined
unfoldable pub joined : (ℕ → List Bool) → ℕ → List Bool
joined f zero = []
joined f (suc n) = f zero ++ joined (λ i. f (suc i)) n

-- ---- rows

-- n positive wires, then n negative, from variable 1
abbrev pub row_bits : ℕ → Row → List Bool
row_bits n r = upto (bit r.positive) n ++ upto (bit r.negative) n

-- the wires of the rows, one row after the other
unfoldable pub rows_bits : ℕ → List Row → List Bool
rows_bits n [] = []
rows_bits n (r ∷ rs) = row_bits n r ++ rows_bits n rs

-- ---- a state

-- what g says of the level, counted from the first, which the list has last; false at an unused level
unfoldable pub on_level : (Level → Bool) → List Level → ℕ → Bool
on_level g [] l = false
on_level g (x ∷ xs) l = cond (eqb l (length xs)) (g x) (on_level g xs l)

-- a level: T, F and the chosen variable (n each)
abbrev pub level_wires : ℕ → List Level → ℕ → List Bool
level_wires n levels l =
    upto (λ i. on_level (λ x. bit x.t i) levels l) n
    ++ (upto (λ i. on_level (λ x. bit x.f i) levels l) n ++ upto (λ i. on_level (λ x. eqb i x.chosen) levels l) n)

-- closed as refuted
abbrev pub is_refuted : Standing → Bool
is_refuted Open = false
is_refuted Satisfied = false
is_refuted Refuted = true

-- T (n), F (n), depth (n + 1, one set, depth 0 first), n levels, then satisfied, refuted
unfoldable pub state_bits : ℕ → State → List Bool
state_bits n s =
    upto (bit s.t) n ++ (upto (bit s.f) n ++ (upto (λ k. eqb k (length s.levels)) (suc n)
    ++ (joined (level_wires n s.levels) n ++ (is_satisfied s.standing ∷ (is_refuted s.standing ∷ [])))))
