-- `read_one` meets its contract: no CR or LF, one clause, and then the end.
use mathlib.Core.Path.{◌≡◌, sym, ◌∙◌}
use mathlib.Core.Bool.{false}
use Rattle.drat_line.specs.Lines.{has_break}
use Rattle.drat_line.proofs.Reading.{one_break, one_end, one_unreadable, one_more, one_just}
use Rattle.drat_line.proofs.read_one.Goals as goal
use Rattle.drat_line.proofs.read_one.Goals.{After-read_clause-first}

-- the bytes have no CR and no LF
unbroken : (c : After-read_clause-first) → has_break c.args.part.now ≡ false
unbroken c = sym c.has_break.ensures ∙ c.if-has_break.false

pub returns-then-has_break : goal.returns-then-has_break
returns-then-has_break c =
    let a = c.args in
    one_break a.n a.part.now (sym c.has_break.ensures ∙ c.if-has_break.true)

pub returns-then-not-is_ended : goal.returns-then-not-is_ended
returns-then-not-is_ended c =
    one_more c.args.n c.args.part.now (unbroken (goal.at.returns-then-not-is_ended c).After-read_clause-first) c.requires _ _ _
    (sym c.read_clause-first.ensures.value ∙ c.in-Read.is)
    c.is_ended.result c.is_ended.ensures c.if-not-is_ended.true

pub returns-else-not-is_ended : goal.returns-else-not-is_ended
returns-else-not-is_ended c =
    one_just c.args.n c.args.part.now (unbroken (goal.at.returns-else-not-is_ended c).After-read_clause-first) c.requires _ _ _
    (sym c.read_clause-first.ensures.value ∙ c.in-Read.is)
    c.is_ended.result c.is_ended.ensures c.if-not-is_ended.false

pub returns-in-End : goal.returns-in-End
returns-in-End c =
    let a = c.args in
    one_end a.n a.part.now (unbroken (goal.at.returns-in-End c).After-read_clause-first) (sym c.read_clause-first.ensures.value ∙ c.in-End.is)

pub returns-in-Unreadable : goal.returns-in-Unreadable
returns-in-Unreadable c =
    let a = c.args in
    one_unreadable a.n a.part.now (unbroken (goal.at.returns-in-Unreadable c).After-read_clause-first)
    (sym c.read_clause-first.ensures.value ∙ c.in-Unreadable.is)
