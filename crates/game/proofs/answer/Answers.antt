-- `answer` meets its contract: what was read of the text is the definition's, and it is played as the definition says.
use mathlib.Core.Path.{sym, ap, ap₂, ◌∙◌}
use mathlib.Core.List.{List}
use lib.Seq.{length-take-le}
use Rattle.refusals.proofs.Outcomes.{passed_on}
use Rattle.std.specs.Prelude.{Ok}
use Rattle.words.specs.declared.Row.{Row}
use Rattle.qdimacs.specs.Text.{GameTurn, game_text}
use Rattle.qdimacs.proofs.Fine.{text_fine}
use Rattle.game.specs.Game.{winner_of, game_answer}
use Rattle.game.proofs.Reading.{Given, given, refused-is}
use Rattle.game.proofs.Answers.{said}
use Rattle.game.proofs.answer.Goals as goal
use Rattle.game.proofs.answer.Goals.{In_ok-game}

-- what was read, from a text that is taken
taken : (c : In_ok-game) → Given c.in_ok-game.game (game_text c.args.text.now)
taken c = given _ _ c.read.ensures.value (text_fine _) _ c.in_ok-game.was

pub returns-in_err-game : goal.returns-in_err-game
returns-in_err-game c =
    rw (passed_on _ _ c.from_residual.ensures.1) (let g = game_text c.args.text.now in
    let p = said g _ (sym (ap game_answer (refused-is g _ c.read.ensures.value _ c.in_err-game.was))) in
    record { value = p.0; result_value = p.1 })

pub slice_bounds-words-end : goal.slice_bounds-words-end
slice_bounds-words-end c = (taken (goal.at.slice_bounds-words-end c).In_ok-game).room

pub slice_bounds-play-end : goal.slice_bounds-play-end
slice_bounds-play-end c = sym (length-take-le _ _ (taken (goal.at.slice_bounds-play-end c).In_ok-game).room)

pub play-winner-requires : goal.play-winner-requires
play-winner-requires c =
    let t = taken (goal.at.play-winner-requires c).In_ok-game in
    record { le_n = t.some_turn; is_set_value = t.new }

pub returns : goal.returns
returns c =
    let t = taken (goal.at.returns c).In_ok-game in
    let p = said (game_text c.args.text.now) _ (ap Ok (c.play-winner.ensures
    ∙ ap₂ (λ (rs : List Row) (ks : List GameTurn). winner_of rs ks) t.rows_are t.turns_are) ∙ sym (ap game_answer t.is)) in
    record { value = p.0; result_value = p.1 }
