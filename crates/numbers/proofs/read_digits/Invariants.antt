-- `read_digits` meets its contract: the digits left, after the value so far, give what the token gives.
use mathlib.Core.Path.{◌≡◌}
use Prim.Native.Nat.{◌≤◌}
use lib.ListN.{drop}
use Rattle.numbers.specs.Numbers.{digits_after, decimal_of}
use Rattle.numbers.specs.CappedNumbers.{digits_held}
use Rattle.numbers.proofs.read_digits.Given as goal

abbrev pub invariant-loop-b : goal.invariant-loop-b
invariant-loop-b l = (l.v ≤ 1000) × (digits_held (digits_after l.v (drop l.b-index l.word)) ≡ digits_held (decimal_of l.word))
