-- `force_rows` meets its contract: the pairs of words are the rows in their order, and each turn forces its row's literal.
use Rattle.std.proofs.Common.{◌≡◌, ◌/◌, length, ap, ◌∙◌, arith}
use Rattle.words.specs.declared.Row.{Row}
use Rattle.tables.specs.Rows.{row_at}
use Rattle.scan.proofs.Fronts.{row-of_pair}
use Rattle.propagation.specs.Passes.{after_row}
use Rattle.propagation.proofs.Passes.{left-start, left_conflict, left-more, left_end}
use Rattle.propagation.proofs.force_rows.Goals as goal
use Rattle.propagation.proofs.force_rows.Goals.{After-force_row-next}

-- the row that a turn reads
forced : (c : After-force_row-next) → let l = c.loop-positive in c.force_row-next.result ≡ after_row (row_at c.args.rows.now l.positive-index) l.t l.f
forced c =
    let l = c.loop-positive in
    c.force_row-next.ensures ∙ ap (λ (r : Row). after_row r l.t l.f)
    (rw c.as_chunks.ensures.front (row-of_pair c.args.rows.now (length c.args.rows.now / 2) l.positive-index (omega arith)))

pub loop-positive-init : goal.loop-positive-init
loop-positive-init c = let a = c.args in left-start a.rows.now _ a.t a.f

pub returns-then-next : goal.returns-then-next
returns-then-next c =
    let l = c.loop-positive in
    let a = c.args in
    left_conflict a.rows.now _ a.t a.f l.positive-index l.t l.f l.invariant (omega arith)
    c.force_row-next.result (forced (goal.at.returns-then-next c).After-force_row-next) c.if-next.true

pub loop-positive-preserved : goal.loop-positive-preserved
loop-positive-preserved c =
    let l = c.loop-positive in
    let a = c.args in
    left-more a.rows.now _ a.t a.f l.positive-index l.t l.f l.invariant (omega arith)
    c.force_row-next.result (forced (goal.at.loop-positive-preserved c).After-force_row-next) c.if-next.false

pub returns : goal.returns
returns c =
    let l = c.loop-positive in
    let a = c.args in
    left_end a.rows.now _ a.t a.f l.positive-index l.t l.f l.invariant (omega arith)
