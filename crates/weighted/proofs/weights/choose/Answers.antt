-- `choose` meets its contract: the floats compare as the weights.
use mathlib.Core.Path.{◌∙◌}
use Prim.Native.Nat.{◌/◌}
use native.Mathlib.Omega.{arith}
use lib.ListN.{length}
use Rattle.weighted.proofs.Weighing.{heaviest-all}
use Rattle.weighted.proofs.weights.choose.Goals as goal

pub returns : goal.returns
returns c =
    let a = c.args in
    c.heaviest.ensures
    ∙ heaviest-all a.t a.f a.tables.left.now a.tables.right.now a.tables.public.now (length a.tables.left.now / 2) (length a.tables.right.now / 2)
    (length a.tables.public.now / 2) (omega arith) (omega arith) (omega arith) c.weigh.result c.weigh.ensures
