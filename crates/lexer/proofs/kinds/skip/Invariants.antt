-- `skip` meets its contract: the run from `i` on ends where the run from `at` on ends.
use mathlib.Core.Path.{◌≡◌}
use Rattle.lexer.specs.Kinds.{passes}
use Rattle.lexer.specs.Places.{run_end}
use Rattle.lexer.proofs.kinds.skip.Given as goal

abbrev pub invariant-loop-i : goal.invariant-loop-i
invariant-loop-i l = run_end (passes l.kind) l.text l.i ≡ run_end (passes l.kind) l.text l.at
