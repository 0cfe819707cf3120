-- `numbers` meets its contract: by the two cases of the winner.
use mathlib.Core.Path.{sym, ap, ◌∙◌}
use Rattle.game.specs.Game.{winner_numbers}
use Rattle.host_game.proofs.numbers.Goals as goal

pub returns-in-Existential : goal.returns-in-Existential
returns-in-Existential c = c.with_opening.ensures ∙ ap winner_numbers (sym c.in-Existential.is)

pub returns-in-Universal : goal.returns-in-Universal
returns-in-Universal c = c.with_opening-in-Universal.ensures ∙ ap winner_numbers (sym c.in-Universal.is)
