-- `digits_for` meets its contract: each test is one of the definition's.
use native.Mathlib.Nat.{not-suc-le-zero}
use native.Mathlib.Omega.{arith}
use Rattle.sections.proofs.DigitLaws.{digits_are, powers_below}
use Rattle.sections.proofs.digits.digits_for.Goals as goal

pub returns-then-n-le1 : goal.returns-then-n-le1
returns-then-n-le1 c =
    let proved = digits_are c.args.n 0 (omega arith) (λ i l. absurd (not-suc-le-zero l)) (λ l. c.if-n-le1.true) in
    record { value = proved.0; upper_bound = proved.1 }

pub returns-then-n-le2 : goal.returns-then-n-le2
returns-then-n-le2 c =
    let proved = digits_are c.args.n 1 (omega arith) (powers_below c.args.n 0 c.if-n-le1.false) (λ l. c.if-n-le2.true) in
    record { value = proved.0; upper_bound = proved.1 }

pub returns-then-n-le4 : goal.returns-then-n-le4
returns-then-n-le4 c =
    let proved = digits_are c.args.n 2 (omega arith)
    (powers_below c.args.n 1 c.if-n-le2.false) (λ l. c.if-n-le4.true) in
    record { value = proved.0; upper_bound = proved.1 }

pub returns-then-n-le8 : goal.returns-then-n-le8
returns-then-n-le8 c =
    let n = c.args.n in
    let proved = digits_are n 3 (omega arith) (powers_below n 2 c.if-n-le4.false) (λ l. c.if-n-le8.true) in
    record { value = proved.0; upper_bound = proved.1 }

pub returns-then-n-le16 : goal.returns-then-n-le16
returns-then-n-le16 c =
    let n = c.args.n in
    let proved = digits_are n 4 (omega arith) (powers_below n 3 c.if-n-le8.false) (λ l. c.if-n-le16.true) in
    record { value = proved.0; upper_bound = proved.1 }

pub returns-else-n-le16 : goal.returns-else-n-le16
returns-else-n-le16 c =
    let n = c.args.n in
    let proved = digits_are n 5 (omega arith) (powers_below n 4 c.if-n-le16.false) (λ l. absurd (omega arith)) in
    record { value = proved.0; upper_bound = proved.1 }
