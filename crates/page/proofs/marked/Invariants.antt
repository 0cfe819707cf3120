-- `marked` meets its contract. The loop's invariant: the word has the marks from v on.
use mathlib.Core.Path.{◌≡◌}
use Prim.Native.Nat.{◌+◌, ◌-◌}
use lib.Dec.{eqb}
use lib.ListN.{get_or}
use Rattle.words.specs.Sets.{word_of}
use Rattle.page.specs.Reading.{mark_place}
use Rattle.page.proofs.marked.Given as goal

abbrev pub invariant-loop-v : goal.invariant-loop-v
invariant-loop-v l = l.word ≡ word_of (λ j. eqb (get_or l.page (mark_place l.watches (l.v + j)) 0) 35) (l.n - l.v)
