-- `reply_whole` meets its contract: what was read is the definition's, whose n is at most 32, and whose tables are accepted.
use mathlib.Core.Path.{◌≡◌, sym, ap, ◌∙◌, subst}
use Prim.Native.Nat.{min}
use Rattle.std.specs.Prelude.{Result, Ok}
use Rattle.refusals.specs.Checks.{outcome}
use Rattle.refusals.specs.declared.Refusal.{Refusal}
use Rattle.solver.specs.declared.Answer.{Answer}
use Rattle.tables.specs.Acceptance.{table_checks}
use Rattle.text.specs.Texts.{text_of}
use Rattle.dimacs.specs.ThreeTexts.{ThreeTables, text_tables, all_read}
use Rattle.dimacs.proofs.Accepted.{accepted-texts}
use Rattle.dimacs.proofs.ThreeTexts.{texts-are, texts-refusal}
use Rattle.answers.specs.Printed.{solved_text}
use Rattle.reply.specs.Reply.{dimensions_of, tables_in}
use Rattle.reply.proofs.Accepted.{tables-taken, printed}
use Rattle.whole_reply.specs.WholeReply.{whole_replied, whole_text}
use Rattle.whole_reply.proofs.Early.{tables-refused}
use Rattle.whole_reply.proofs.reply_whole.Goals as goal
use Rattle.whole_reply.proofs.reply_whole.Goals.{In-Ok}

-- what was read
are : (c : In-Ok) → all_read c.in-Ok.tables ≡ text_tables c.args.left.now c.args.right.now c.args.public.now
are c = texts-are _ _ c.read_tables.ensures.value _ c.in-Ok.is

pub answer-requires : goal.answer-requires
answer-requires c =
    let a = c.args in
    let t = text_tables a.left.now a.right.now a.public.now in
    let e = are (goal.at.answer-requires c).In-Ok in
    subst (λ (t : ThreeTables). outcome (table_checks (dimensions_of t) (tables_in t)) ≡ Ok tt) (sym e)
    (tables-taken t (accepted-texts a.left.now a.right.now a.public.now (ap (λ (t : ThreeTables). t.outcome) (sym e))))

pub returns-in-Err : goal.returns-in-Err
returns-in-Err c =
    let a = c.args in
    c.refusal_text.ensures
    ∙ ap text_of (sym (tables-refused a.left.now a.right.now a.public.now a.line.now _
    (texts-refusal (text_tables a.left.now a.right.now a.public.now) _ c.read_tables.ensures.value _ c.in-Err.is)))

pub returns : goal.returns
unfolding whole_text
returns c =
    let a = c.args in
    let tables = all_read c.in-Ok.tables in
    let e = are (goal.at.returns c).In-Ok in
    c.print.ensures
    ∙ ap (λ (s : Result Answer Refusal). text_of (solved_text (min tables.n 32) s)) c.answer.ensures
    ∙ ap text_of
    (printed a.left.now a.right.now a.public.now tables (whole_replied tables a.line.now) e
    ∙ ap (λ (t : ThreeTables). solved_text t.n (whole_replied t a.line.now)) e)
