-- `place` meets its contract: each turn stores a gate's three words, and what is left of the template gives the rest.
use Prim.Native.Nat.{◌*◌, ◌-◌}
use Rattle.generator.proofs.Placing.{Placing}
use Rattle.generator.proofs.cells.place.Given as goal

abbrev pub invariant-loop-i : goal.invariant-loop-i
invariant-loop-i l = Placing l.initial.words l.template l.slots l.base (3 * (l.base - l.inputs)) l.words l.i
