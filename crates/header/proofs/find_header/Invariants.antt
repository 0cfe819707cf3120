-- `find_header` meets its contract: the lines from `at` on, past their remarks, have the text's header.
use mathlib.Core.Path.{◌≡◌}
use Prim.Native.Nat.{ℕ, ◌-◌, ◌≤◌}
use lib.ListN.{length}
use Rattle.lexer.specs.Pieces.{lines_from}
use Rattle.header.specs.Header.{past_remarks, headed, header_of}
use Rattle.header.proofs.find_header.Given as goal

abbrev pub invariant-loop-at : goal.invariant-loop-at
invariant-loop-at l = (l.at ≤ length l.text) × ((least : ℕ) → headed least l.text (past_remarks (lines_from l.text l.at)) ≡ header_of least l.text)

abbrev pub decreases-loop-at : goal.decreases-loop-at
decreases-loop-at l = length l.text - l.at
