-- `bit` meets its contract: a word of 32 digits has none at or above 32, and below it the shifted word's last digit is the bit.
use mathlib.Core.Path.{sym, ap}
use Prim.Native.Nat.{ℕ, ◌/◌, ◌^◌}
use native.Mathlib.Omega.{arith}
use lib.Dec.{eqb}
use lib.Bits.{and_mask}
use Rattle.words.specs.Sets.{bit}
use Rattle.words.proofs.Operations.{bit_high}
use Rattle.words.proofs.bit.Goals as goal

pub returns-then-i-ge32 : goal.returns-then-i-ge32
returns-then-i-ge32 c = sym (bit_high 32 c.args.word c.args.i (omega arith) c.if-i-ge32.true)

pub returns : goal.returns
unfolding bit
returns c = ap (λ (x : ℕ). eqb x 1) (and_mask (c.args.word / 2 ^ c.args.i) 1)
