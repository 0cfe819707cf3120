-- `read_line` meets its contract: a closing CR and the blanks in front are left out.
use mathlib.Core.Path.{sym, ap, ◌∙◌}
use Prim.Native.Nat.{ℕ}
use native.Mathlib.Omega.{arith}
use lib.ListN.{take}
use lib.Seq.{length-take-le}
use mathlib.Core.List.{List}
use Rattle.drat_line.specs.Lines.{said_of}
use Rattle.drat_line.proofs.Reading.{to_end, closed_le, blanks_le, line-held, high_held}
use Rattle.drat_line.proofs.read_line.Goals as goal
use Rattle.drat_line.proofs.read_line.Goals.{After-closed_at-end}

-- the line without its closing CR
abbrev whole : After-closed_at-end → List ℕ
whole c = take c.closed_at-end.result c.args.line.now

pub returns-then-n-gt32 : goal.returns-then-n-gt32
returns-then-n-gt32 c = let a = c.args in high_held a.n a.line.now (omega arith)

pub slice_bounds-whole-end : goal.slice_bounds-whole-end
slice_bounds-whole-end c =
    sym (length-take-le _ _ (closed_le c.args.line.now c.closed_at-end.result c.closed_at-end.ensures))

pub slice_bounds-read_said-count : goal.slice_bounds-read_said-count
slice_bounds-read_said-count c = blanks_le (whole (goal.at.slice_bounds-read_said-count c).After-closed_at-end) c.skip-from.result c.skip-from.ensures

pub slice_bounds-read_said-start : goal.slice_bounds-read_said-start
slice_bounds-read_said-start c = blanks_le (whole (goal.at.slice_bounds-read_said-start c).After-closed_at-end) c.skip-from.result c.skip-from.ensures

pub returns : goal.returns
returns c =
    let a = c.args in
    c.read_said.ensures ∙ ap (said_of a.n) (to_end c.skip-from.result (whole (goal.at.returns c).After-closed_at-end))
    ∙ line-held a.n a.line.now c.closed_at-end.result c.skip-from.result (omega arith) c.closed_at-end.ensures c.skip-from.ensures
