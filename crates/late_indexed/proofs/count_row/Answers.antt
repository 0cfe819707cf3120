-- `count_row` meets its contract: the judging tells whether the row is satisfied.
use mathlib.Core.Path.{◌≡◌, sym, ap, ◌∙◌}
use mathlib.Core.Bool.{Bool, not}
use Prim.Native.Nat.{◌+◌}
use native.Mathlib.Omega.{arith}
use Rattle.words.specs.Booleans.{digit}
use Rattle.tables.specs.declared.Judged.{Judged}
use Rattle.late_indexed.proofs.count_row.Goals as goal

pub returns-then-judged : goal.returns-then-judged
returns-then-judged c =
    let number = c.args.number in
    let z : number ≡ number + 0 = omega arith in
    z ∙ ap (λ (b : Bool). number + digit (not b)) (sym c.if-judged.true ∙ ap (λ (j : Judged). j.satisfied) c.judge-judged.ensures)

pub returns : goal.returns
returns c =
    let number = c.args.number in
    ap (λ (b : Bool). number + digit (not b)) (sym c.if-judged.false ∙ ap (λ (j : Judged). j.satisfied) c.judge-judged.ensures)
