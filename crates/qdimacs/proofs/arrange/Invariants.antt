-- `arrange` meets its contract: the variables below i that are not listed are still to be put in front.
use mathlib.Core.Path.{◌≡◌}
use Rattle.qdimacs.specs.TurnsInWords.{arranged}
use Rattle.qdimacs.proofs.arrange.Given as goal

abbrev pub invariant-loop-i : goal.invariant-loop-i
invariant-loop-i l = arranged l.listed l.turns l.i ≡ arranged l.listed l.listed_turns l.n
