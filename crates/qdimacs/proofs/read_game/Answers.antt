-- `read_game` meets its contract: prefix and clauses lead where the definition's do, 22 after 5.
use mathlib.Core.Path.{sym, ap, ◌∙◌, subst}
use Rattle.refusals.proofs.Outcomes.{passed_on}
use borrow.Author.Tests.{not-true, not-false}
use Rattle.std.specs.Prelude.{ℕ, Option}
use Rattle.qdimacs.specs.declared.Prefix.{Prefix}
use Rattle.clauses.specs.Clauses.{Reading}
use Rattle.clauses.specs.First.{clauses_from}
use Rattle.qdimacs.specs.TurnsInWords.{quantified, no_variable}
use Rattle.qdimacs.specs.Walk.{walked, lines_past, PrefixEnds}
use Rattle.qdimacs.proofs.Prefixes.{arranged-all}
use Rattle.qdimacs.proofs.Games.{too_many, broken, Ended, ended, table-refused, table-improper, table_taken}
use Rattle.qdimacs.proofs.read_game.Goals as goal
use Rattle.qdimacs.proofs.read_game.Goals.{In-Some, Start}

-- the clauses after it
abbrev reading : In-Some → Reading
reading c = clauses_from c.args.n c.args.text.now c.in-Some.at

-- what the prefix of a text is answered with
abbrev answered : Start → Option (Prefix × ℕ) → Type 0
answered s = PrefixEnds s.args.text.now (walked s.args.n no_variable (lines_past s.args.text.now s.args.end))

-- the prefix
prefix : (c : In-Some)
    → let a = c.args in
    Ended a.n a.m a.text.now a.end c.if-n-gt-MOST.false c.in-Some.p c.in-Some.at
prefix c =
    let a = c.args in
    ended a.n a.m a.text.now a.end c.if-n-gt-MOST.false _ _
    (subst (answered (goal.at.In-Some c).Start) c.in-Some.is c.read_prefix.ensures)

pub returns-then-n-gt-MOST : goal.returns-then-n-gt-MOST
returns-then-n-gt-MOST c =
    let a = c.args in
    sym (ap quantified (too_many a.n a.m a.text.now a.end c.if-n-gt-MOST.true))

pub returns-in_default : goal.returns-in_default
returns-in_default c =
    let a = c.args in
    sym (ap quantified (broken a.n a.m a.text.now a.end c.if-n-gt-MOST.false
    (subst (answered (goal.at.returns-in_default c).Start) c.in_default.is c.read_prefix.ensures)))

pub returns-in_err-table : goal.returns-in_err-table
returns-in_err-table c =
    let a = c.args in
    let p = prefix (goal.at.returns-in_err-table c).In-Some in
    rw (passed_on _ _ c.from_residual.ensures.1)
    (sym (ap quantified (p.whole
    ∙ table-refused a.n a.m c.if-n-gt-MOST.false c.requires.m_le_most_rows (reading (goal.at.returns-in_err-table c).In-Some) _ c.read_body.ensures.value
    p.variables _
    c.in_err-table.was)))

pub returns-then-not-p : goal.returns-then-not-p
returns-then-not-p c =
    let a = c.args in
    let p = prefix (goal.at.returns-then-not-p c).In-Some in
    sym (ap quantified (p.whole
    ∙ table-improper a.n a.m c.if-n-gt-MOST.false c.requires.m_le_most_rows (reading (goal.at.returns-then-not-p c).In-Some) _ c.read_body.ensures.value
    p.variables
    _ c.in_ok-table.was
    (sym p.held.proper-is ∙ not-true _ c.if-not-p.true)))

pub returns : goal.returns
returns c =
    let a = c.args in
    let few = c.if-n-gt-MOST.false in
    let p = prefix (goal.at.returns c).In-Some in
    let mine = sym p.held.proper-is ∙ not-false _ c.if-not-p.false in
    table_taken a.n a.m few c.requires.m_le_most_rows (reading (goal.at.returns c).In-Some) _ c.read_body.ensures.value p.variables _ c.in_ok-table.was mine _
    (c.arrange.ensures ∙ arranged-all a.n few _ p.variables p.held mine)
    ∙ sym (ap quantified p.whole)
