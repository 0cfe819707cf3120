-- `put_table` meets its contract: the squares left to restore give what all squares give.
use native.Mathlib.Omega.{arith}
use Rattle.columns.proofs.Restoring.{restoring_start, restoring_next, restoring_end, share-small}
use Rattle.columns.proofs.put_table.Goals as goal

pub loop-s-init : goal.loop-s-init
loop-s-init c = (omega arith, omega arith, restoring_start _ _ _)

pub put_rows-requires : goal.put_rows-requires
put_rows-requires c =
    let l = c.loop-s in
    let w = share-small _ _ _ l.s l.table l.invariant.2 c.share.result c.share.ensures in
    (w.0, omega (arith, l.invariant.2.size, w.1))

pub loop-s-preserved : goal.loop-s-preserved
loop-s-preserved c =
    let l = c.loop-s in (
      omega arith,
      l.invariant.1,
      restoring_next _ _ _ l.s l.table l.invariant.2 c.share.result c.share.ensures
          c.rows_of-next.result c.rows_of-next.ensures
          c.put_rows.new.table c.put_rows.ensures,
    )

pub returns : goal.returns
returns c = let l = c.loop-s in restoring_end _ _ _ l.s l.table l.invariant.2 (omega arith)
