-- `rows_of` meets its contract: the words picked are those of the square's two planes.
use mathlib.Core.Path.{◌∙◌}
use Rattle.squares.proofs.Picking.{picked-back}
use Rattle.squares.proofs.rows_of.Goals as goal

pub returns : goal.returns
returns c = let a = c.args in c.both.ensures ∙ picked-back a.planes.now a.s
