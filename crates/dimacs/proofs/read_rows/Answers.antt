-- `read_rows` meets its contract: with each clause one row more is filled in.
use mathlib.Core.Path.{sym, ap, ◌∙◌}
use native.Mathlib.Omega.{arith}
use Rattle.dimacs.specs.Text.{table_read}
use Rattle.dimacs.proofs.Fill.{empty, one_more, unread, overfull, full}
use Rattle.dimacs.proofs.read_rows.Goals as goal

pub loop-k-init : goal.loop-k-init
loop-k-init c = empty _ _ _ _

pub returns-in_default : goal.returns-in_default
returns-in_default c =
    sym (ap table_read (unread c.loop-k.invariant _ c.loop-k-test.true c.read_clause.ensures.value c.in_default.not-Read))

pub bounds-words-k : goal.bounds-words-k
bounds-words-k c = omega (arith, c.loop-k.invariant.sized, c.requires.m_le_most_rows)

pub bounds-words-k-in-loop-k : goal.bounds-words-k-in-loop-k
bounds-words-k-in-loop-k c = omega (arith, c.loop-k.invariant.sized, c.requires.m_le_most_rows)

pub loop-k-preserved : goal.loop-k-preserved
loop-k-preserved c =
    one_more c.loop-k.invariant c.requires.n_le_most_variables _ _ _ c.loop-k-test.true (sym c.read_clause.ensures.value ∙ c.in-Read.is)

pub returns-in_default-read_clause : goal.returns-in_default-read_clause
returns-in_default-read_clause c =
    sym (ap table_read (overfull c.loop-k.invariant c.loop-k-test.false _ c.read_clause-2.ensures.value
    c.in_default-read_clause.not-End))

pub returns : goal.returns
returns c =
    ap table_read (full c.loop-k.invariant c.loop-k-test.false c.requires.m_le_most_rows (sym c.read_clause-2.ensures.value ∙ c.in-End.is))
