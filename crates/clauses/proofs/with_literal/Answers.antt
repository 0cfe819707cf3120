-- `with_literal` meets its contract: `put` has the bit, or leaves the word.
use lib.Dec.{ltb}
use Rattle.words.proofs.Truth.{on}
use Rattle.clauses.proofs.with_literal.Goals as goal

pub returns-then-minus : goal.returns-then-minus
returns-then-minus c = on (ltb c.args.i 32) (λ e. rw (c.if-minus.true, c.put.ensures, e)) (λ e. rw (c.put.ensures, e))

pub returns-else-minus : goal.returns-else-minus
returns-else-minus c = on (ltb c.args.i 32) (λ e. rw (c.if-minus.false, c.put-else-minus.ensures, e)) (λ e. rw (c.put-else-minus.ensures, e))
