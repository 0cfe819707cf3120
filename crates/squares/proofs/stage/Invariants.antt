-- `stage` meets its contract: the words below 2 × j are filled in, two in each turn.
use Prim.Native.Nat.{◌*◌}
use Rattle.squares.specs.Steps.{mixed_word}
use Rattle.squares.proofs.Tabulating.{Filled}
use Rattle.squares.proofs.stage.Given as goal

abbrev pub invariant-loop-j : goal.invariant-loop-j
invariant-loop-j l = Filled (mixed_word l.words l.d) 32 (2 * l.j) l.next
