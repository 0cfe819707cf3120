-- `low` meets its contract: each word is looked at.
use mathlib.Core.Path.{ap₂}
use mathlib.Core.Bool.{Bool, ◌&&◌}
use Rattle.late.proofs.low.Goals as goal

pub returns : goal.returns
returns c = ap₂ (λ (x y : Bool). x && y) c.below.ensures c.below-2.ensures
