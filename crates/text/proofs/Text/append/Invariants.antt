-- `Text::append` meets its contract. The invariant: appending what is left gives what appending the whole gives.
use mathlib.Core.Path.{◌≡◌}
use lib.ListN.{drop}
use Rattle.text.specs.Texts.{appended}
use Rattle.text.proofs.Text.append.Given as goal

abbrev pub invariant-loop-byte : goal.invariant-loop-byte
invariant-loop-byte l = appended l.text (drop l.byte-index l.more) ≡ appended l.initial.text l.more
