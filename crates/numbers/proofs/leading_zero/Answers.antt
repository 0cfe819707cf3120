-- `leading_zero` meets its contract: by the length, and else by the first byte.
use mathlib.Core.Path.{sym}
use native.Mathlib.Omega.{arith}
use borrow.Author.Tests.{le-ltb}
use Rattle.numbers.proofs.Decimals.{zero-short, zero_long}
use Rattle.numbers.proofs.leading_zero.Goals as goal

pub returns-then-word-gt1 : goal.returns-then-word-gt1
returns-then-word-gt1 c = sym (zero_long _ c.if-word-gt1.true)

pub returns-else-word-gt1 : goal.returns-else-word-gt1
returns-else-word-gt1 c = rw (le-ltb _ _ c.if-word-gt1.false) (sym (zero-short _ (omega arith)))
