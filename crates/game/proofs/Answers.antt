-- What an answer says holds: its winner can force its aim, still with the value that it gives; and its numbers are those of the game.
use mathlib.Core.Path.{◌≡◌, refl, sym, ap, ◌∙◌}
use mathlib.Core.Bool.{Bool, true, false, not, cond, true≢false}
use mathlib.Core.List.{List, [], ◌∷◌}
use Prim.Native.Nat.{ℕ}
use native.Mathlib.Omega.{arith}
use Rattle.std.specs.Prelude.{Result}
use Rattle.refusals.specs.declared.Refusal.{Refusal}
use Rattle.game.specs.declared.Winner.{Winner}
use Rattle.words.specs.declared.Row.{Row}
use Rattle.words.proofs.Truth.{on}
use Rattle.truth.specs.Truth.{all_true}
use Rattle.qdimacs.specs.Text.{GameTurn, GameText, game, no_game, game_text}
use Rattle.qdimacs.proofs.Fine.{Played, fine_game}
use Rattle.game.specs.Game.{fixed, decided, forced, unfixed, winner, winner_of, winner_numbers, game_answer, game_code, game_numbers, won_said, game_said}
use Rattle.game.specs.Strategies.{ExistentialForces, UniversalForces, Holds}
use Rattle.game.proofs.Strategies.{forces}

-- ---- who wins, and how

module _ (rows : List Row) where
  -- not both sides can force their aims
  pub one_side : (ks : List GameTurn) (a : ℕ → Bool) → ExistentialForces rows ks a → UniversalForces rows ks a → ⊥
  one_side ks a e u = true≢false (sym (e.1 u.0) ∙ u.1 e.0)

  pub answer-holds : (k : GameTurn) (ks : List GameTurn) → Holds rows (k ∷ ks) (winner_of rows (k ∷ ks))
  unfolding forced
  answer-holds k ks = go k.universal (forced rows ks (fixed unfixed v true)) (forced rows ks (fixed unfixed v false)) refl refl refl
    where
      v : ℕ
      v = k.variable

      whole : (u x y : Bool) → k.universal ≡ u → forced rows ks (fixed unfixed k.variable true) ≡ x → forced rows ks (fixed unfixed k.variable false) ≡ y
          → forced rows (k ∷ ks) unfixed ≡ decided u x y
      whole u x y eu ex ey = rw (eu, ex, ey) refl

      go : (u x y : Bool) → k.universal ≡ u → forced rows ks (fixed unfixed k.variable true) ≡ x → forced rows ks (fixed unfixed k.variable false) ≡ y
          → Holds rows (k ∷ ks) (winner k.variable u x y)
      go true true true eu ex ey = (eu, (forces rows (k ∷ ks) unfixed).existential (whole true true true eu ex ey))
      go true true false eu ex ey = (
        eu,
        refl,
        (forces rows ks (fixed unfixed k.variable false)).universal ey,
        λ q u. one_side ks (fixed unfixed k.variable true) ((forces rows ks (fixed unfixed k.variable true)).existential ex) u,
      )
      go true false y eu ex ey = (eu, refl, (forces rows ks (fixed unfixed k.variable true)).universal ex, λ q u. absurd (true≢false q))
      go false true y eu ex ey = (eu, refl, (forces rows ks (fixed unfixed k.variable true)).existential ex, λ q u. absurd (true≢false q))
      go false false true eu ex ey = (
        eu,
        refl,
        (forces rows ks (fixed unfixed k.variable false)).existential ey,
        λ q e. one_side ks (fixed unfixed k.variable true) e ((forces rows ks (fixed unfixed k.variable true)).universal ex),
      )
      go false false false eu ex ey = (eu, (forces rows (k ∷ ks) unfixed).universal (whole false false false eu ex ey))

-- what the answer to a text's game says holds
pub text_holds : (text : List ℕ) (rows : List Row) (turns : List GameTurn) → game_text text ≡ game rows turns → Holds rows turns (winner_of rows turns)
text_holds text rows turns e = go turns (fine_game text rows turns e)
  where
    go : (ts : List GameTurn) → Played rows ts → Holds rows ts (winner_of rows ts)
    go [] p = absurd (omega (arith, p.some_turn))
    go (k ∷ ks) p = answer-holds rows k ks

-- ---- its numbers

won-said : (v : ℕ) (u x y : Bool) → winner_numbers (winner v u x y) ≡ cond (decided u x y) (won_said 1 (not u) v x) (won_said 2 u v (not x))
won-said v true true true = refl
won-said v true true false = refl
won-said v true false true = refl
won-said v true false false = refl
won-said v false true true = refl
won-said v false true false = refl
won-said v false false true = refl
won-said v false false false = refl

answer-said : (g : GameText) → game_code (game_answer g) ∷ game_numbers (game_answer g) ≡ game_said g
unfolding forced
answer-said (no_game r) = refl
answer-said (game rows []) = on (all_true unfixed rows) (λ e. rw e) (λ e. rw e)
answer-said (game rows (k ∷ ks)) =
    ap (λ (ns : List ℕ). 0 ∷ ns)
    (won-said k.variable k.universal (forced rows ks (fixed unfixed k.variable true)) (forced rows ks (fixed unfixed k.variable false)))

-- what is given says its number and its values
pub said : (g : GameText) (r : Result Winner Refusal) → r ≡ game_answer g → (r ≡ game_answer g) × (game_code r ∷ game_numbers r ≡ game_said g)
said g r e = (e, ap (λ (x : Result Winner Refusal). game_code x ∷ game_numbers x) e ∙ answer-said g)
