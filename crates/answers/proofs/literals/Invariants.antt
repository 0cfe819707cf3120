-- `literals` meets its contract. The invariant: appending the literals that are left gives what appending all gives.
use mathlib.Core.Path.{◌≡◌}
use Prim.Native.Nat.{◌-◌}
use Rattle.text.specs.Texts.{appended}
use Rattle.answers.specs.Printed.{literals}
use Rattle.answers.proofs.literals.Given as goal

abbrev pub invariant-loop-i : goal.invariant-loop-i
invariant-loop-i l = appended l.out (literals (l.n - l.i) l.i l.model) ≡ appended l.initial.out (literals l.n 0 l.model)
