-- What the two functions take for granted of turns, T and F, and when the rows decide a game early.
use Rattle.std.specs.Prelude.{ℕ, ◌≡◌, Bool, true, false, not, ◌&&◌, ◌||◌, List, [], ◌∷◌, eqb, ltb, Option, Some, None}
use Rattle.words.specs.Sets.{bit}
use Rattle.scan.specs.declared.Rule.{Rule}
use Rattle.scan.specs.declared.Rule.TheVariants.{AllSatisfied, Conflict, Unit, Choice}
use Rattle.qdimacs.specs.Text.{GameTurn}

-- in T or in F
abbrev pub is_set : ℕ → ℕ → ℕ → Bool
is_set t f i = bit t i || bit f i

-- the variables of the turns are bits of words, all different, and none is set
unfoldable pub are_all_new : List GameTurn → (ℕ → Bool) → Bool
are_all_new [] s = true
are_all_new (k ∷ ks) s = ltb k.variable 32 && not (s k.variable) && are_all_new ks (λ i. s i || eqb i k.variable)

-- no variable is in T and in F
abbrev pub Apart : ℕ → ℕ → Type 0
Apart t f = (i : ℕ) → bit t i && bit f i ≡ false

-- what rows that T and F satisfy, or a row in conflict, say of the game, whatever turns are to come
abbrev pub cut_of : Rule → Option Bool
cut_of AllSatisfied = Some true
cut_of Conflict = Some false
cut_of (Unit v b) = None
cut_of (Choice v) = None
