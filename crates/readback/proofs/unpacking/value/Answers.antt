-- `value` meets its contract: the test is the definition's.
use mathlib.Core.Path.{sym, ap}
use native.Mathlib.Omega.{arith}
use borrow.Author.Tests.{eq-eqb, ne_eqb}
use Rattle.words.specs.Booleans.{digit}
use Rattle.readback.proofs.unpacking.value.Goals as goal

pub returns-then-byte-eq1 : goal.returns-then-byte-eq1
returns-then-byte-eq1 c =
    record { value = sym (ap digit (eq-eqb _ _ c.if-byte-eq1.true)); upper_bound = omega arith }

pub returns : goal.returns
returns c =
    record { value = sym (ap digit (ne_eqb _ _ c.if-byte-eq1.false)); upper_bound = omega arith }
