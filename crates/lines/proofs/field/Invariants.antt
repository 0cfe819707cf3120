-- `field` meets its contract. The invariant: the value so far and the digits that are left give what all digits give.
use mathlib.Core.Path.{◌≡◌}
use Prim.Native.Nat.{◌^◌, ◌<◌}
use lib.Dec.{ltb}
use lib.ListN.{drop}
use Rattle.lines.specs.Numbers.{field_of}
use Rattle.lines.proofs.Fields.{field_after}
use Rattle.lines.proofs.field.Given as goal

abbrev pub invariant-loop-i : goal.invariant-loop-i
invariant-loop-i l = (l.value < 2 ^ 64) × (field_after l.value (ltb l.at l.i) l.closing (drop l.i l.line) ≡ field_of l.closing (drop l.at l.line))
