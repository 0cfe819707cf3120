-- `give` meets its contract: a part that has room is copied whole.
use mathlib.Core.Path.{ap}
use mathlib.Core.List.{List, ◌++◌}
use Prim.Native.Nat.{ℕ}
use lib.ListN.{length, drop}
use Rattle.host_excerpts.proofs.Parts.{no_room, with-room}
use Rattle.host_excerpts.proofs.give.Goals as goal

pub returns-then-bytes-part : goal.returns-then-bytes-part
returns-then-bytes-part c =
    let a = c.args in let proved = no_room a.part.now a.bytes.now a.length.now c.if-bytes-part.true _ c.from.ensures in
    record { value = proved.0; bytes_after = proved.1.0; length_after = proved.1.1 }

pub returns : goal.returns
returns c =
    let copied = c in
    let fits = copied in
    let a = fits.args in let proved = with-room a.part.now a.bytes.now a.length.now fits.if-bytes-part.false _
    (ap (λ (l : List ℕ). l ++ drop (length a.part.now) a.bytes.now) copied.copy_from_slice.ensures.after) in
    record { value = proved.0; bytes_after = proved.1.0; length_after = proved.1.1 }
