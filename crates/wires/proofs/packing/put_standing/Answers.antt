-- `put_standing` meets its contract: two stores in a row.
use mathlib.Core.Path.{ap, ◌∙◌}
use native.Mathlib.Omega.{arith}
use lib.ListN.{length-set}
use Rattle.words.specs.Booleans.{digit}
use Rattle.state.specs.State.{is_satisfied}
use Rattle.wires.specs.Layout.{is_refuted}
use Rattle.wires.proofs.Stores.{stored-two}
use Rattle.wires.proofs.packing.put_standing.Goals as goal

pub bounds-bytes-at-2 : goal.bounds-bytes-at-2
bounds-bytes-at-2 c = simp length-set (omega arith)

pub returns : goal.returns
returns c = stored-two c.args.bytes.now c.args.at (is_satisfied c.args.standing) (is_refuted c.args.standing) _ _
    (c.byte.ensures ∙ ap digit c.is_satisfied.ensures)
    (c.byte-2.ensures ∙ ap digit c.is_refuted.ensures)
