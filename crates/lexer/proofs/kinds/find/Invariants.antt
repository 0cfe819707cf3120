-- `find` meets its contract: the run from `i` on ends where the run from `at` on ends.
use mathlib.Core.Path.{◌≡◌}
use mathlib.Core.Bool.{not}
use Rattle.lexer.specs.Kinds.{passes}
use Rattle.lexer.specs.Places.{run_end}
use Rattle.lexer.proofs.kinds.find.Given as goal

abbrev pub invariant-loop-i : goal.invariant-loop-i
invariant-loop-i l = run_end (λ b. not (passes l.kind b)) l.text l.i ≡ run_end (λ b. not (passes l.kind b)) l.text l.at
