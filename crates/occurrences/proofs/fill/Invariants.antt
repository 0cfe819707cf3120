-- `fill` meets its contract. The loop's invariant: the index is that of the rows passed.
use mathlib.Core.Path.{◌≡◌}
use Rattle.tables.specs.Rows.{rows_from}
use Rattle.occurrences.specs.Index.{index_of}
use Rattle.occurrences.proofs.fill.Given as goal

abbrev pub invariant-loop-r : goal.invariant-loop-r
invariant-loop-r l = l.index ≡ index_of (rows_from l.words 0 l.r)
