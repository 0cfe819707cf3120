-- `look` meets its contract: before variable v, what is seen is what the variables below v show.
use mathlib.Core.Path.{◌≡◌}
use Rattle.tally.specs.RowsSeen.{seen_in}
use Rattle.tally.proofs.surveying.look.Given as goal

abbrev pub invariant-loop-v : goal.invariant-loop-v
invariant-loop-v l = l.seen ≡ seen_in l.index l.t l.f l.v l.w
