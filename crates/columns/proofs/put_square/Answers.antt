-- `put_square` meets its contract: one plane after the other.
use mathlib.Core.Path.{◌≡◌, ap, ◌∙◌}
use mathlib.Core.List.{List, []}
use Prim.Native.Nat.{ℕ, ◌+◌}
use lib.ListN.{length, get_or}
use lib.Seq.{sets}
use borrow.Author.Rules.{rules}
use Rattle.columns.proofs.Storing.{two_planes}
use Rattle.columns.proofs.put_square.Goals as goal

pub returns : goal.returns
returns c =
    let a = c.args in
    let e : length a.square ≡ 2 = search rules in
    let first = c.put_plane.ensures in
    c.put_plane-2.ensures.0
    ∙ ap (λ (l : List ℕ). sets l (a.at + 32) (get_or a.square 1 [])) first.0
    ∙ two_planes a.planes.now a.at a.square e first.1
