-- `put_one` meets its contract. The loop's invariant: the bytes below the index are their wires'.
use Rattle.std.proofs.Common.{◌≡◌, ℕ, ◌<◌, get_or}
use Rattle.words.specs.Booleans.{digit}
use lib.Dec.{eqb}
use Rattle.wires.proofs.packing.put_one.Given as goal

abbrev pub invariant-loop-i : goal.invariant-loop-i
invariant-loop-i l = (j : ℕ) → j < l.i → get_or l.wire-items j 0 ≡ digit (eqb j l.k)
