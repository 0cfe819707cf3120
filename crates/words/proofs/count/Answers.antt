-- `count` meets its contract: neighbouring fields added leave the sum of all fields, which are the word's bits at first and its four bytes at last. Masks
-- bound a sum of words, and no sum of bytes is more than 32.
use Prim.Native.Nat.{ℕ, ◌+◌, ◌^◌, ◌≤◌, ◌<◌}
use native.Mathlib.Nat.{lt_of_le_of_lt}
use native.Mathlib.Omega.{arith}
use lib.Pow.{add-lt-pow}
use lib.Bits.{bit_and, and_le_r}
use borrow.Author.Rules.{rules}
use mir.Syntax.{w8, w32}
use mir.Val.{Fits}
use Rattle.words.specs.Sets.{bit}
use Rattle.words.proofs.Upto.{count_le}
use Rattle.words.proofs.Fields.{eights, byte, bytes-sum}
use Rattle.words.proofs.count.Goals as goal

-- masks below 2 ^ 31 bound both parts of a sum of words
sum_fits : (x y m k : ℕ) → m < 2 ^ 31 → k < 2 ^ 31 → Fits w32 (bit_and x m + bit_and y k)
sum_fits x y m k h l = record { fits = add-lt-pow 31 (lt_of_le_of_lt (and_le_r x m) h) (lt_of_le_of_lt (and_le_r y k) l) }

byte_fits : (y : ℕ) → Fits w8 (bit_and y 255)
byte_fits y = record { fits = omega (arith, and_le_r y 255) }

-- the four bytes' counts
few : (w : ℕ) → let y = eights w in bit_and y 255 + byte y 8 + (byte y 16 + byte y 24) ≤ 32
few w = omega (arith, bytes-sum w, count_le (bit w) 32)

pub overflow_add-twos : goal.overflow_add-twos
overflow_add-twos c = search (rules, sum_fits)

pub overflow_add-fours : goal.overflow_add-fours
overflow_add-fours c = search (rules, sum_fits)

pub overflow_add-eights : goal.overflow_add-eights
overflow_add-eights c = search (rules, sum_fits)

pub overflow_cast-low : goal.overflow_cast-low
overflow_cast-low c = search (rules, byte_fits)

pub overflow_cast-low-2 : goal.overflow_cast-low-2
overflow_cast-low-2 c = search (rules, byte_fits)

pub overflow_add-low : goal.overflow_add-low
overflow_add-low c = record { fits = omega (arith, few c.args.word) }

pub overflow_cast-high : goal.overflow_cast-high
overflow_cast-high c = search (rules, byte_fits)

pub overflow_cast-high-2 : goal.overflow_cast-high-2
overflow_cast-high-2 c = search (rules, byte_fits)

pub overflow_add-high : goal.overflow_add-high
overflow_add-high c = record { fits = omega (arith, few c.args.word) }

pub overflow_add-result : goal.overflow_add-result
overflow_add-result c = record { fits = omega (arith, few c.args.word) }

pub returns : goal.returns
returns c = bytes-sum c.args.word
