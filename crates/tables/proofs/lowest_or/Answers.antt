-- `lowest_or` meets its contract: a word that is not 0 has a variable, and its lowest one fits a byte.
use native.Mathlib.Omega.{arith}
use Rattle.words.proofs.Operations.{lowest_in}
use Rattle.tables.proofs.Judging.{lowest_or-none, lowest_or-some}
use Rattle.tables.proofs.lowest_or.Goals as goal

pub returns-then-word-eq0 : goal.returns-then-word-eq0
returns-then-word-eq0 c = let a = c.args in lowest_or-none a.word a.other c.if-word-eq0.true

pub overflow_cast-result : goal.overflow_cast-result
overflow_cast-result c = record { fits = omega (arith, c.lowest.ensures, (lowest_in 32 c.args.word (omega arith) c.if-word-eq0.false).0) }

pub returns : goal.returns
returns c = let a = c.args in rw c.lowest.ensures (lowest_or-some a.word a.other (omega arith) c.if-word-eq0.false)
