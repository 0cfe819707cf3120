-- `reaches` meets its contract. The loop's invariant: what can be reached is the same as at the start. Each pass leaves fewer variables free.
use Rattle.scan.specs.Rules.{rows_of_words}
use Rattle.propagation.proofs.Passes.{same_start, same_conflict, same_quiet, same-less, same_more}
use Rattle.propagation.proofs.reaches.Goals as goal

pub loop-next-init : goal.loop-next-init
loop-next-init c = let a = c.args in same_start (rows_of_words a.rows.now) a.t a.f c.requires

pub returns-then-next : goal.returns-then-next
returns-then-next c =
    let a = c.args in
    same_conflict (rows_of_words a.rows.now) a.t a.f c.loop-next.t c.loop-next.f c.requires c.loop-next.invariant
    c.force_rows-next.result c.force_rows-next.ensures c.if-next.true

pub returns-then-next-t : goal.returns-then-next-t
returns-then-next-t c =
    let a = c.args in
    same_quiet (rows_of_words a.rows.now) a.t a.f c.loop-next.t c.loop-next.f c.requires c.loop-next.invariant
    c.force_rows-next.result c.force_rows-next.ensures c.if-next.false c.if-next-t.true

pub loop-next-smaller : goal.loop-next-smaller
loop-next-smaller c =
    let a = c.args in
    same-less (rows_of_words a.rows.now) a.t a.f c.loop-next.t c.loop-next.f c.requires c.loop-next.invariant
    c.force_rows-next.result c.force_rows-next.ensures c.if-next.false c.if-next-t.false

pub loop-next-preserved : goal.loop-next-preserved
loop-next-preserved c =
    let a = c.args in
    same_more (rows_of_words a.rows.now) a.t a.f c.loop-next.t c.loop-next.f c.requires c.loop-next.invariant
    c.force_rows-next.result c.force_rows-next.ensures c.if-next.false
