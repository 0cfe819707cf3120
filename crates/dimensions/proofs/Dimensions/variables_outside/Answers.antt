-- `Dimensions::variables_outside` meets its contract: its two tests are the definition's.
use mathlib.Core.Path.{refl}
use Rattle.dimensions.proofs.Dimensions.variables_outside.Goals as goal

pub returns : goal.returns
returns c = refl
