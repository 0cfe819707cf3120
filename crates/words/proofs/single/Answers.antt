-- `single` meets its contract: 0 has no bit, and any other word has one where it shares none with its predecessor.
use mathlib.Core.Path.{sym, ap}
use Prim.Native.Nat.{ℕ}
use native.Mathlib.Omega.{arith}
use lib.Dec.{eqb}
use Rattle.words.proofs.Ones.{count-zero, count_single}
use Rattle.words.proofs.single.Goals as goal

pub returns-then-word-eq0 : goal.returns-then-word-eq0
returns-then-word-eq0 c = rw c.if-word-eq0.true (sym (ap (λ (x : ℕ). eqb x 1) (count-zero 32)))

pub returns : goal.returns
returns c = count_single 32 c.args.word (omega arith) c.if-word-eq0.false
