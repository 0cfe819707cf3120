-- `square` meets its contract: the words picked are those of the square's rows, the positive and the negative ones.
use mathlib.Core.Path.{◌∙◌}
use Rattle.squares.proofs.Picking.{picked-square}
use Rattle.squares.proofs.square.Goals as goal

pub returns : goal.returns
returns c = let a = c.args in c.both.ensures ∙ picked-square a.table.now a.s
