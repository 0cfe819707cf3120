-- `lowest_row` meets its contract: each table is searched with the number of its first row, one after the other.
use Prim.Native.Nat.{◌/◌}
use native.Mathlib.Omega.{arith}
use lib.ListN.{length}
use Rattle.tables.proofs.Numbering.{table-length}
use Rattle.scan.specs.Rules.{rows_of_words}
use Rattle.explained.specs.Explanation.{shows}
use Rattle.explained.proofs.Searching.{three-tables}
use Rattle.explained.proofs.lowest.lowest_row.Goals as goal

pub returns : goal.returns
returns c =
    let second = c.search-found in
    let first = c.search-in_left in
    let a = c.args in
    three-tables (shows 32 a.t a.f a.rule) (rows_of_words a.tables.left.now) (rows_of_words a.tables.right.now) (rows_of_words a.tables.public.now) _ _
    first.result
    second.result c.search.result
    (omega (arith, table-length a.tables.left.now 0 (length a.tables.left.now / 2)))
    (omega (arith, table-length a.tables.right.now 0 (length a.tables.right.now / 2)))
    c.search-in_left.ensures c.search-found.ensures c.search.ensures
