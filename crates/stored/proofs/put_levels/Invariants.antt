-- `put_levels` meets its contract: with the levels that are left, the words are at each turn those of the whole.
use mathlib.Core.Path.{◌≡◌}
use Rattle.stored.proofs.Levels.{with_rest}
use Rattle.stored.proofs.put_levels.Given as goal

abbrev pub invariant-loop-l : goal.invariant-loop-l
invariant-loop-l l = with_rest l.level-items l.out l.l ≡ with_rest l.level-items l.initial.out 0
