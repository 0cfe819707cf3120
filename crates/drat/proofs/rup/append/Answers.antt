-- `append` meets its contract: the rows that were there, then the table's.
use native.Mathlib.Omega.{arith}
use Rattle.drat.proofs.Present.{appended}
use Rattle.drat.proofs.rup.append.Goals as goal

pub returns-clause-result_after : goal.returns-clause-result_after
returns-clause-result_after c =
    let a = c.args in
    appended a.words.now _ a.table.now a.count a.rows _ c.requires.rows_in_bounds c.requires.rows_in_bounds_2 c.copy_from_slice.ensures.after (omega arith)
