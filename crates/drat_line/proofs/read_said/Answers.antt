-- `read_said` meets its contract: nothing, a deletion or an addition.
use mathlib.Core.Path.{sym, ap, ◌∙◌}
use Rattle.drat_line.specs.Lines.{clause_in, added_by, deleted_by}
use Rattle.drat_line.proofs.Reading.{to_end, deletion_long, said-nothing, said_deleted, said-added}
use Rattle.drat_line.proofs.read_said.Goals as goal

pub returns-then-part-eq0 : goal.returns-then-part-eq0
returns-then-part-eq0 c = let a = c.args in said-nothing a.n a.part.now c.if-part-eq0.true

pub slice_bounds-read_one-count : goal.slice_bounds-read_one-count
slice_bounds-read_one-count c = deletion_long c.args.part.now (sym c.is_deletion.ensures ∙ c.if-is_deletion.true)

pub slice_bounds-read_one-start : goal.slice_bounds-read_one-start
slice_bounds-read_one-start c = deletion_long c.args.part.now (sym c.is_deletion.ensures ∙ c.if-is_deletion.true)

pub returns-then-is_deletion : goal.returns-then-is_deletion
returns-then-is_deletion c =
    let a = c.args in
    c.deleted_by.ensures ∙ ap deleted_by (c.read_one.ensures ∙ ap (clause_in a.n) (to_end 2 a.part.now))
    ∙ said_deleted a.n a.part.now c.if-part-eq0.false (sym c.is_deletion.ensures ∙ c.if-is_deletion.true)

pub returns : goal.returns
returns c =
    let a = c.args in
    c.added_by.ensures ∙ ap added_by c.read_one-2.ensures
    ∙ said-added a.n a.part.now c.if-part-eq0.false (sym c.is_deletion.ensures ∙ c.if-is_deletion.false)
