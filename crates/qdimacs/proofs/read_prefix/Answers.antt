-- `read_prefix` meets its contract: with each line passed the lines after it lead to what all lead to.
use mathlib.Core.Path.{sym, ◌∙◌}
use mathlib.Core.Bool.{not}
use Prim.Native.Nat.{◌+◌, ◌≤◌}
use native.Mathlib.Omega.{arith}
use lib.ListN.{length}
use Rattle.lexer.specs.Bytes.{is_line_feed}
use Rattle.lexer.proofs.Runs.{end_ge, end_le}
use Rattle.qdimacs.proofs.Lines.{walking, walk_over, walk_on, walk_ends, walk_breaks}
use Rattle.qdimacs.proofs.read_prefix.Goals as goal
use Rattle.qdimacs.proofs.read_prefix.Goals.{After-find-end}

-- the line lies in the text
starts : (c : After-find-end) → c.loop-at.at + 1 ≤ c.find-end.result
starts c = omega (arith, c.find-end.ensures, end_ge (λ b. not (is_line_feed b)) c.args.text.now (c.loop-at.at + 1))

ends : (c : After-find-end) → c.find-end.result ≤ length c.args.text.now
ends c =
    omega (arith, c.find-end.ensures, end_le (λ b. not (is_line_feed b)) c.args.text.now (c.loop-at.at + 1) (omega (arith, c.loop-at-test.true)))

pub loop-at-init : goal.loop-at-init
loop-at-init c = walking _ _ _ _ c.find-at.ensures

pub slice_bounds-read_line-count : goal.slice_bounds-read_line-count
slice_bounds-read_line-count c = starts c

pub slice_bounds-read_line-start : goal.slice_bounds-read_line-start
slice_bounds-read_line-start c = starts c

pub slice_bounds-read_line-end : goal.slice_bounds-read_line-end
slice_bounds-read_line-end c = ends c

pub returns-in-Clauses : goal.returns-in-Clauses
returns-in-Clauses c =
    walk_ends c.loop-at.invariant c.loop-at-test.true _ c.find-end.ensures (sym c.in-Clauses.is ∙ c.read_line.ensures)

pub returns-in-Malformed : goal.returns-in-Malformed
returns-in-Malformed c =
    walk_breaks c.loop-at.invariant c.loop-at-test.true _ c.find-end.ensures
    (sym c.in-Malformed.is ∙ c.read_line.ensures)

pub loop-at-smaller : goal.loop-at-smaller
loop-at-smaller c = omega (arith, starts (goal.at.loop-at-smaller c).After-find-end, c.loop-at-test.true)

pub loop-at-preserved : goal.loop-at-preserved
loop-at-preserved c =
    walk_on c.loop-at.invariant c.loop-at-test.true _ c.find-end.ensures _
    (sym c.in-Passed.is ∙ c.read_line.ensures)

pub returns : goal.returns
returns c = walk_over c.loop-at.invariant c.loop-at-test.false
