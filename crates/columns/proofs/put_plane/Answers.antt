-- `put_plane` meets its contract: the part of the planes is the words.
use mathlib.Core.Path.{◌≡◌}
use native.Mathlib.Omega.{arith}
use lib.ListN.{length}
use borrow.Author.Rules.{rules}
use Rattle.columns.proofs.Storing.{part_stored}
use Rattle.columns.proofs.put_plane.Goals as goal

pub returns : goal.returns
returns c =
    let size : length c.args.words ≡ 32 = search rules in
    (part_stored c.args.planes.now _ c.args.words c.args.at _ c.copy_from_slice.ensures.after (omega arith) (omega arith), size)
