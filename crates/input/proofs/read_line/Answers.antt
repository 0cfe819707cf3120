-- `read_line` meets its contract. The invariant: what was read is within the buffer and has no LF, the bytes after are as they were, and the input
-- gave what was read.
use native.Mathlib.Omega.{arith}
use lib.ListN.{length-set}
use borrow.Author.Tests.{ne_eqb}
use borrow.Author.Rules.{rules}
use Rattle.input.proofs.Lines.{line_so_far, goes_on, ends, rest-left}
use Rattle.input.proofs.Giving.{byte-given}
use Rattle.input.proofs.read_line.Goals as goal

pub returns-in-Ok-eq0-clause-buf_after : goal.returns-in-Ok-eq0-clause-buf_after
returns-in-Ok-eq0-clause-buf_after g c = line_so_far _ c.loop-done.invariant.2

pub returns-in-Ok-eq0-2-clause-buf_after : goal.returns-in-Ok-eq0-2-clause-buf_after
returns-in-Ok-eq0-2-clause-buf_after g c = line_so_far _ c.loop-done.invariant.2

pub returns-then-one-eq10-clause-buf_after : goal.returns-then-one-eq10-clause-buf_after
returns-then-one-eq10-clause-buf_after g c = ends c.loop-done.buf c.loop-done.done _ (omega arith) c.loop-done.invariant.2

pub loop-done-preserved : goal.loop-done-preserved
loop-done-preserved g c =
    let l = c.loop-done in (
      simp length-set (omega arith),
      simp length-set l.invariant.1,
      goes_on l.buf l.done _ (omega arith) (ne_eqb _ _ c.if-one-eq10.false) l.invariant.2,
      rest-left l.buf c.args.buf.now l.done _ l.invariant.3,
      byte-given _ _ _ l.buf c.read.new.buf l.done c.in-Ok.field-0 (omega arith) (search rules) c.in-Ok.ensures.bound.0 (search rules) l.invariant.4
          c.in-Ok.ensures.bytes.0,
    )

pub returns-clause-buf_after : goal.returns-clause-buf_after
returns-clause-buf_after g c = line_so_far _ c.loop-done.invariant.2
