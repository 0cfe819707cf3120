-- `drives` meets its contract: each return cites the law of the tests that led there.
use mathlib.Core.Path.{sym}
use native.Mathlib.Omega.{arith}
use Rattle.gates.proofs.Judging.{first-late, second-late, as_one}
use Rattle.gates.proofs.drives.Goals as goal

pub returns-then-m-wide : goal.returns-then-m-wide
returns-then-m-wide c =
    let s = c.args in
    sym (first-late s.m s.kind s.a s.b (omega (arith, c.wide.ensures)))

pub returns-then-m-wide-2 : goal.returns-then-m-wide-2
returns-then-m-wide-2 c =
    let s = c.args in
    sym (second-late s.m s.kind s.a s.b (omega (arith, c.wide.ensures)) (omega (arith, c.wide-2.ensures)))

pub returns : goal.returns
returns c =
    let s = c.args in
    rw (c.wide-4.ensures, c.wide-3.ensures)
    (as_one s.m s.kind s.a s.b (omega (arith, c.wide.ensures)) (omega (arith, c.wide-2.ensures)) (omega arith))
