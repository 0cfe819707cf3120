-- `read_body` meets its contract: within their limits n and m are what `read_rows` asks for.
use mathlib.Core.Path.{ap, sym, ◌∙◌}
use mathlib.Core.Bool.{Bool, cond}
use lib.Dec.{ltb}
use borrow.Author.Tests.{ltb-false}
use Rattle.words.proofs.Truth.{or_l, or_r}
use Rattle.dimensions.specs.Sizes.{most_variables, most_rows}
use Rattle.refusals.specs.declared.Refusal.TheVariants.{Text}
use Rattle.clauses.specs.First.{clauses_from}
use Rattle.dimacs.specs.Text.{refused, body_of, table_read}
use Rattle.dimacs.specs.Body.{body_within}
use Rattle.dimacs.proofs.ThreeTexts.{table-said}
use Rattle.dimacs.proofs.read_body.Goals as goal

pub returns-then-n-m : goal.returns-then-n-m
returns-then-n-m c =
    let a = c.args in
    let proved = table-said (body_within a.n a.m (clauses_from a.n a.text.now a.start))
    (sym (ap (λ (t : Bool). table_read (cond t (refused Text) (body_of a.n a.m (clauses_from a.n a.text.now a.start)))) c.if-n-m.true)) in
    record { value = proved.0; outcome_value = proved.1 }

pub read_rows-requires : goal.read_rows-requires
read_rows-requires c =
    let a = c.args in
    record {
      n_le_most_variables = ltb-false most_variables a.n (or_l (ltb most_variables a.n) (ltb most_rows a.m) c.if-n-m.false);
      m_le_most_rows = ltb-false most_rows a.m (or_r (ltb most_variables a.n) (ltb most_rows a.m) c.if-n-m.false);
    }

pub returns : goal.returns
returns c =
    let a = c.args in
    let proved = table-said (body_within a.n a.m (clauses_from a.n a.text.now a.start))
    (c.read_rows.ensures
    ∙ sym (ap (λ (t : Bool). table_read (cond t (refused Text) (body_of a.n a.m (clauses_from a.n a.text.now a.start)))) c.if-n-m.false)) in
    record { value = proved.0; outcome_value = proved.1 }
