-- `read_header` meets its contract: the line from the place found to its LF is the header's.
use mathlib.Core.Path.{sym, ap, ◌∙◌}
use mathlib.Core.Bool.{not}
use Prim.Native.Nat.{ℕ, ◌≤◌}
use native.Mathlib.Omega.{arith}
use lib.ListN.{length}
use Rattle.std.specs.Prelude.{Result}
use Rattle.refusals.specs.declared.Refusal.{Refusal}
use Rattle.lexer.specs.Bytes.{is_line_feed}
use Rattle.lexer.proofs.Runs.{end_ge, end_le}
use Rattle.header.proofs.Lines.{header_at, said}
use Rattle.header.proofs.read_header.Goals as goal
use Rattle.header.proofs.read_header.Goals.{After-find-end}

-- the line lies in the text
starts : (c : After-find-end) → c.find_header-at.result ≤ c.find-end.result
starts c = omega (arith, c.find-end.ensures, end_ge (λ b. not (is_line_feed b)) c.args.text.now c.find_header-at.result)

ends : (c : After-find-end) → c.find-end.result ≤ length c.args.text.now
ends c =
    let found = c.find_header-at in
    omega (arith, c.find-end.ensures, end_le (λ b. not (is_line_feed b)) c.args.text.now found.result c.find_header-at.ensures.upper_bound)

pub slice_bounds-read_line-count : goal.slice_bounds-read_line-count
slice_bounds-read_line-count c = starts c

pub slice_bounds-read_line-start : goal.slice_bounds-read_line-start
slice_bounds-read_line-start c = starts c

pub slice_bounds-read_line-end : goal.slice_bounds-read_line-end
slice_bounds-read_line-end c = ends c

pub returns : goal.returns
returns c =
    let found = c.find_header-at in
    let least = c.args.least in
    let proved = said least _ _
    (ap (λ (x : Result (ℕ × ℕ) Refusal). record { sizes = x; end = c.find-end.result }) c.read_line-sizes.ensures
    ∙ sym (header_at _ found.result least c.find-end.result c.find-end.ensures found.ensures.upper_bound)
    ∙ found.ensures.header_from least) in
    record { value = proved.0; sizes_value = proved.1 }
