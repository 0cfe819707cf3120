-- `below` meets its contract by how many of the 64 rows are below the count.
use Rattle.tally.proofs.SeenLaws.{below_none, below_all, below-some, shifted_pos}
use Rattle.tally.proofs.surveying.below.Goals as goal

pub returns-then-count-first : goal.returns-then-count-first
returns-then-count-first c = below_none _ _ c.if-count-first.true

pub returns-then-k-ge64 : goal.returns-then-k-ge64
returns-then-k-ge64 c = below_all _ _ c.if-k-ge64.true

pub overflow_sub-result : goal.overflow_sub-result
overflow_sub-result c = shifted_pos _ _ c.if-k-ge64.false

pub returns : goal.returns
returns c = below-some _ _ c.if-count-first.false c.if-k-ge64.false
