-- Two sides fix variables in turn, the existential side for all rows true, the universal side against it (document 02, "Who can force the
-- roster").
-- Ask: Whose turn is it, and which variables come first? Which value is given where both serve?
use Rattle.refusals.specs.declared.Refusal.{Refusal}
use Rattle.std.specs.Prelude.{ℕ, suc, Bool, true, false, not, ◌&&◌, ◌||◌, cond, List, [], ◌∷◌, eqb, Result, Option, Ok, Err, Some, None}
use Rattle.words.specs.declared.Row.{Row}
use Rattle.words.specs.Booleans.{digit}
use Rattle.refusals.specs.Numbers.{number_of as refusal_number}
use Rattle.truth.specs.Truth.{all_true}
use Rattle.qdimacs.specs.Text.{GameTurn, GameText, game, no_game}
use Rattle.game.specs.declared.Winner.{Winner}
use Rattle.game.specs.declared.Winner.TheVariants.{Existential, Universal}

-- ---- the game

-- the assignment with a variable fixed
abbrev pub fixed : (ℕ → Bool) → ℕ → Bool → ℕ → Bool
fixed a v b i = cond (eqb i v) b (a i)

-- what the existential side can force at a turn, from what it can after true and after false: where the universal side moves, with both
-- values
abbrev pub decided : Bool → Bool → Bool → Bool
decided true x y = x && y
decided false x y = x || y

-- the existential side can force that all rows are true, from an assignment on, with these turns to come: "The two sides' best outcomes are
-- worked out each from the other's, with one variable fewer"
unfoldable pub forced : List Row → List GameTurn → (ℕ → Bool) → Bool
forced rows [] a = all_true a rows
forced rows (k ∷ ks) a = decided k.universal (forced rows ks (fixed a k.variable true)) (forced rows ks (fixed a k.variable false))

-- before any turn; what is in it has no effect, since each variable of the rows has a turn (`text_unfixed`, proofs/Satisfiability)
abbrev pub unfixed : ℕ → Bool
unfixed i = false

-- ---- the answer

-- who can force its aim, from the first variable, whether the universal side fixes it, and what the existential side can force after its
-- true and after its false: "where the winner moves first, one value of that first variable with which it still wins, true if both serve"
abbrev pub winner : ℕ → Bool → Bool → Bool → Winner
winner v true x y = cond (x && y) (Existential None) (Universal (Some (v, (not x))))
winner v false x y = cond (x || y) (Existential (Some (v, x))) (Universal None)

-- of rows and turns; there is always a first turn
abbrev pub winner_of : List Row → List GameTurn → Winner
winner_of rows [] = cond (all_true unfixed rows) (Existential None) (Universal None)
winner_of rows (k ∷ ks) =
    winner k.variable k.universal (forced rows ks (fixed unfixed k.variable true))
    (forced rows ks (fixed unfixed k.variable false))

-- of a text
abbrev pub game_answer : GameText → Result Winner Refusal
game_answer (game rows turns) = Ok (winner_of rows turns)
game_answer (no_game r) = Err r

-- ---- its numbers

-- the first variable, "numbered 1 to n", and its value; 0 and 0 where the winner does not move first
abbrev pub opening_numbers : Option (ℕ × Bool) → List ℕ
opening_numbers (Some (v, b)) = suc v ∷ (digit b ∷ [])
opening_numbers None = 0 ∷ (0 ∷ [])

-- 1 for the existential side, 2 for the universal one
abbrev pub winner_numbers : Winner → List ℕ
winner_numbers (Existential o) = 1 ∷ opening_numbers o
winner_numbers (Universal o) = 2 ∷ opening_numbers o

-- 0, or the refusal's number
abbrev pub game_code : Result Winner Refusal → ℕ
game_code (Ok w) = 0
game_code (Err r) = refusal_number r

-- the winner, the first variable and its value
abbrev pub game_numbers : Result Winner Refusal → List ℕ
game_numbers (Ok w) = winner_numbers w
game_numbers (Err r) = []

-- the same of rows and turns: a side that wins, and moves first or not, with the first variable and a value
abbrev pub won_said : ℕ → Bool → ℕ → Bool → List ℕ
won_said side true v b = side ∷ (suc v ∷ (digit b ∷ []))
won_said side false v b = side ∷ (0 ∷ (0 ∷ []))

abbrev pub game_said : GameText → List ℕ
game_said (no_game r) = refusal_number r ∷ []
game_said (game rows []) = 0 ∷ cond (all_true unfixed rows) (won_said 1 false 0 false) (won_said 2 false 0 false)
game_said (game rows (k ∷ ks)) =
    let x = forced rows ks (fixed unfixed k.variable true) in
    0 ∷ cond (forced rows (k ∷ ks) unfixed) (won_said 1 (not k.universal) k.variable x)
    (won_said 2 k.universal k.variable (not x))
