-- `read_line` meets its contract: the line up to `end` is the line without its tail.
use mathlib.Core.Path.{sym, ap, ◌∙◌}
use mathlib.Core.List.{List}
use Prim.Native.Nat.{ℕ}
use native.Mathlib.Omega.{arith}
use lib.ListN.{take}
use lib.Seq.{length-take-le}
use Rattle.lexer.specs.Bytes.{is_tail, is_blank}
use Rattle.lexer.specs.Pieces.{parts_from}
use Rattle.lexer.proofs.Trims.{trimmed-take, trimmed_le}
use Rattle.header.specs.Header.{header_parts}
use Rattle.header.proofs.read_line.Goals as goal

pub slice_bounds-read_parts-end : goal.slice_bounds-read_parts-end
slice_bounds-read_parts-end c =
    sym (length-take-le _ _ (omega (arith, c.trim-end.ensures, trimmed_le is_tail c.args.line.now)))

pub returns : goal.returns
returns c =
    let start = c.args in
    c.read_parts.ensures
    ∙ ap (λ (l : List ℕ). header_parts start.least (parts_from is_blank l 0))
    (ap (λ (i : ℕ). take i start.line.now) c.trim-end.ensures ∙ trimmed-take is_tail start.line.now)
