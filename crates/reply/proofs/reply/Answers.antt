-- `reply` meets its contract: what was read is the definition's, whose n is at most 32.
use mathlib.Core.Path.{◌≡◌, sym, ap, ◌∙◌}
use Prim.Native.Nat.{min}
use Rattle.std.specs.Prelude.{Result}
use Rattle.refusals.specs.declared.Refusal.{Refusal}
use Rattle.solver.specs.declared.Answer.{Answer}
use Rattle.text.specs.Texts.{text_of}
use Rattle.dimacs.specs.ThreeTexts.{ThreeTables, text_tables, all_read}
use Rattle.dimacs.proofs.ThreeTexts.{texts-are, texts-refusal}
use Rattle.answers.specs.Printed.{solved_text}
use Rattle.reply.specs.Reply.{replied, reply_text}
use Rattle.reply.proofs.Accepted.{printed}
use Rattle.reply.proofs.Early.{tables-refused}
use Rattle.reply.proofs.reply.Goals as goal

pub returns-in-Err : goal.returns-in-Err
returns-in-Err c =
    let a = c.args in
    c.refusal_text.ensures
    ∙ ap text_of (sym (tables-refused a.left.now a.right.now a.public.now a.line.now _
    (texts-refusal (text_tables a.left.now a.right.now a.public.now) _ c.read_tables.ensures.value _ c.in-Err.is)))

pub returns : goal.returns
unfolding reply_text
returns c =
    let a = c.args in
    let tables = all_read c.in-Ok.tables in
    let are : tables ≡ text_tables a.left.now a.right.now a.public.now = texts-are _ _ c.read_tables.ensures.value _ c.in-Ok.is in
    c.print.ensures
    ∙ ap (λ (s : Result Answer Refusal). text_of (solved_text (min tables.n 32) s)) c.answer.ensures
    ∙ ap text_of
    (printed a.left.now a.right.now a.public.now tables (replied tables a.line.now) are
    ∙ ap (λ (t : ThreeTables). solved_text t.n (replied t a.line.now)) are)
