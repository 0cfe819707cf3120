-- `both` meets its contract: the columns of the words picked from each of the two places on.
use mathlib.Core.Path.{ap, ap₂, ◌∙◌}
use mathlib.Core.List.{List, [], ◌∷◌}
use Prim.Native.Nat.{ℕ}
use Rattle.squares.specs.Squares.{transposed}
use Rattle.squares.proofs.both.Goals as goal

pub returns : goal.returns
returns c = ap₂ (λ (p q : List ℕ). p ∷ q ∷ [])
    (c.transpose-first.ensures ∙ ap transposed c.pick.ensures)
    (c.transpose-second.ensures ∙ ap transposed c.pick-2.ensures)
