-- `forkhemit_game` meets its contract: by the two cases of the answer.
use mathlib.Core.Path.{◌≡◌, refl, sym, ap, ◌∙◌}
use mathlib.Core.List.{List}
use Prim.Native.Nat.{ℕ}
use Rattle.std.specs.Prelude.{Result}
use Rattle.refusals.specs.declared.Refusal.{Refusal}
use Rattle.lent.specs.Lent.{numbers_or}
use Rattle.game.specs.Game.{winner_numbers, game_code, game_numbers}
use Rattle.game.specs.declared.Winner.{Winner}
use Rattle.game.specs.declared.Winner.TheVariants.{Existential, Universal}
use Rattle.host_game.proofs.forkhemit_game.Goals as goal

-- a winner's numbers replace what was there
put_in : (w : Winner) (lent : List ℕ) → winner_numbers w ≡ numbers_or (winner_numbers w) lent
put_in (Existential o) lent = refl
put_in (Universal o) lent = refl

pub returns-in-Ok : goal.returns-in-Ok
returns-in-Ok c =
    let lent = c.args.answer.now in
    let is = sym c.in-Ok.is ∙ c.answer.ensures.value in record {
      value = ap game_code is;
      answer_after = c.numbers-given.ensures ∙ put_in c.in-Ok.winner lent ∙ ap (λ (x : Result Winner Refusal). numbers_or (game_numbers x) lent) is;
    }

pub returns-in-Err : goal.returns-in-Err
returns-in-Err c =
    let lent = c.args.answer.now in
    let is = sym c.in-Err.is ∙ c.answer.ensures.value in record {
      value = c.from.ensures ∙ ap game_code is;
      answer_after = ap (λ (x : Result Winner Refusal). numbers_or (game_numbers x) lent) is;
    }
