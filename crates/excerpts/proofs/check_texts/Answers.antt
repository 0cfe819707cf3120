-- `check_texts` meets its contract: each test is the definition's, in its order.
use mathlib.Core.Path.{refl, sym, ◌∙◌}
use Rattle.dimacs.specs.Text.{as_read}
use Rattle.excerpts.proofs.Checks.{differ, no_clause, texts-taken}
use Rattle.excerpts.proofs.check_texts.Goals as goal

pub returns-then-left-right : goal.returns-then-left-right
returns-then-left-right c =
    differ c.args.d (as_read c.args.left) (as_read c.args.right) c.args.number refl refl c.if-left-right.true

pub returns-then-not-has_clause : goal.returns-then-not-has_clause
returns-then-not-has_clause c =
    no_clause c.args.d (as_read c.args.left) (as_read c.args.right) c.args.number refl refl c.if-left-right.false
    (sym c.has_clause.ensures ∙ c.if-not-has_clause.true)

pub returns : goal.returns
returns c =
    texts-taken c.args.d (as_read c.args.left) (as_read c.args.right) c.args.number refl refl c.if-left-right.false
    (sym c.has_clause.ensures ∙ c.if-not-has_clause.false)
