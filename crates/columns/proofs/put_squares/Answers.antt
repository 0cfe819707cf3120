-- `put_squares` meets its contract: the squares left to store give what all squares give.
use mathlib.Core.Path.{ap, ◌∙◌}
use mathlib.Core.List.{List}
use Prim.Native.Nat.{ℕ, ◌*◌}
use native.Mathlib.Omega.{arith}
use lib.Seq.{sets}
use Rattle.columns.specs.Planes.{flat}
use Rattle.columns.proofs.Storing.{squaring_start, squaring_next, squaring_end}
use Rattle.columns.proofs.put_squares.Goals as goal

pub loop-s-init : goal.loop-s-init
loop-s-init c = (omega arith, squaring_start _ _ _)

pub put_square-requires : goal.put_square-requires
put_square-requires c = omega (arith, c.loop-s.invariant.1.size)

pub loop-s-preserved : goal.loop-s-preserved
loop-s-preserved c =
    let l = c.loop-s in (
      omega arith,
      squaring_next _ _ _ l.s l.planes l.invariant.1 (omega arith) c.put_square.new.planes
          (c.put_square.ensures ∙ ap (λ (q : List (List ℕ)). sets l.planes (64 * l.s) (flat q))
          c.square-next.ensures),
    )

pub returns : goal.returns
returns c = let l = c.loop-s in squaring_end _ _ _ l.s l.planes l.invariant.1 (omega arith)
