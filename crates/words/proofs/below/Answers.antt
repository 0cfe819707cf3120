-- `below` meets its contract: at 32 or more every word is below, else the shifted word is 0 exactly for a word of n digits.
use mathlib.Core.Path.{sym}
use native.Mathlib.Nat.{lt_of_lt_of_le}
use native.Mathlib.Omega.{arith}
use lib.Pow.{pow_mono}
use borrow.Author.Tests.{lt-ltb}
use Rattle.words.proofs.Operations.{shr_zero}
use Rattle.words.proofs.below.Goals as goal

pub returns-then-n-ge32 : goal.returns-then-n-ge32
returns-then-n-ge32 c = sym (lt-ltb _ _ (lt_of_lt_of_le {m = 4294967296} (omega arith) (pow_mono c.if-n-ge32.true)))

pub returns : goal.returns
returns c = shr_zero c.args.n c.args.word
