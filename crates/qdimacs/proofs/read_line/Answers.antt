-- `read_line` meets its contract: the first byte tells what the line is, and a line without a token is passed by.
use mathlib.Core.Path.{sym, ap, ◌∙◌}
use mathlib.Core.List.{List}
use Prim.Native.Nat.{ℕ}
use native.Mathlib.Omega.{arith}
use lib.Dec.{eqb}
use lib.ListN.{take, get_or}
use lib.Seq.{length-take-le}
use Rattle.lexer.specs.Bytes.{is_blank, is_tail, is_separator}
use Rattle.lexer.specs.Pieces.{parts_from}
use Rattle.lexer.proofs.Cuts.{found, missing}
use Rattle.lexer.proofs.Trims.{trimmed-take, trimmed_le}
use Rattle.qdimacs.specs.Lines.{lettered}
use Rattle.qdimacs.specs.TurnsInWords.{line_held}
use Rattle.qdimacs.proofs.OneLine.{empty_passed, remark_passed, blank_passed, clauses-line, letter_line}
use Rattle.qdimacs.proofs.read_line.Goals as goal

pub returns-then-line-eq0 : goal.returns-then-line-eq0
returns-then-line-eq0 c = let a = c.args in empty_passed a.n a.before a.line.now c.if-line-eq0.true

pub returns-then-first-eq99 : goal.returns-then-first-eq99
returns-then-first-eq99 c = let a = c.args in remark_passed a.n a.before a.line.now c.if-first-eq99.true

pub slice_bounds-read_variables-end : goal.slice_bounds-read_variables-end
slice_bounds-read_variables-end c =
    sym (length-take-le _ _ (omega (arith, c.trim-end.ensures, trimmed_le is_tail c.args.line.now)))

pub returns-then-first : goal.returns-then-first
returns-then-first c =
    let a = c.args in
    let line = a.line.now in
    c.read_variables.ensures
    ∙ ap (λ (l : List ℕ). line_held a.n a.before (lettered (eqb (get_or line 0 0) 97) (parts_from is_blank l 0)))
    (ap (λ (i : ℕ). take i line) c.trim-end.ensures ∙ trimmed-take is_tail line)
    ∙ sym (letter_line a.n a.before line c.if-first-eq99.false c.if-line-eq0.false c.if-first.true)

pub returns-in_default : goal.returns-in_default
returns-in_default c =
    let a = c.args in
    clauses-line a.n a.before a.line.now c.if-first-eq99.false _ _
    (found is_separator _ _ _ _ (sym c.next_part.ensures ∙ c.in_default.is)).pieces c.if-first.false

pub returns : goal.returns
returns c =
    let a = c.args in
    blank_passed a.n a.before a.line.now (missing is_separator _ _ (sym c.next_part.ensures ∙ c.in-None.is))
