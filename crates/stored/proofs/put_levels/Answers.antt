-- `put_levels` meets its contract: with the levels that are left, the words are at each turn those of the whole.
use mathlib.Core.Path.{sym, ◌∙◌}
use Rattle.stored.proofs.Levels.{with_rest, store_turn, store_end}
use borrow.Author.Rules.{rules}
use Rattle.stored.proofs.put_levels.Goals as goal

pub loop-l-preserved : goal.loop-l-preserved
loop-l-preserved c = store_turn c.args.levels c.loop-l.out c.loop-l.l (search rules) ∙ c.loop-l.invariant

pub returns : goal.returns
unfolding with_rest
returns c = sym (store_end c.args.levels c.loop-l.out c.loop-l.l (search rules)) ∙ c.loop-l.invariant
