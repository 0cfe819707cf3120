-- `put_set` meets its contract. The loop's invariant: the bytes below the index are their wires'.
use Rattle.std.proofs.Common.{◌≡◌, ℕ, ◌<◌, get_or}
use Rattle.words.specs.Booleans.{digit}
use Rattle.words.specs.Sets.{bit}
use Rattle.wires.proofs.packing.put_set.Given as goal

abbrev pub invariant-loop-i : goal.invariant-loop-i
invariant-loop-i l = (j : ℕ) → j < l.i → get_or l.wire-items j 0 ≡ digit (bit l.word j)
