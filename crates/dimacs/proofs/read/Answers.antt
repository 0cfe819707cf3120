-- `read` meets its contract: the header's refusal or its n and m lead where the definition's do.
use mathlib.Core.Path.{sym, ap, ◌∙◌}
use Rattle.refusals.proofs.Outcomes.{passed_on}
use Rattle.dimacs.specs.Text.{table_of, table_read}
use Rattle.dimacs.proofs.Texts.{overlong, limits, by_header}
use Rattle.dimacs.proofs.ThreeTexts.{table-said}
use Rattle.dimacs.proofs.read.Goals as goal

pub returns-then-text-gt65536 : goal.returns-then-text-gt65536
returns-then-text-gt65536 c =
    let a = c.args in
    let proved = table-said (table_of a.least a.text.now) (sym (ap table_read (overlong a.least a.text.now c.if-text-gt65536.true))) in
    record { value = proved.0; outcome_value = proved.1 }

pub returns-in_err-n : goal.returns-in_err-n
returns-in_err-n c =
    let a = c.args in
    rw (passed_on _ _ c.from_residual.ensures.1)
    (let proved = table-said (table_of a.least a.text.now)
    (sym (ap table_read
    (by_header a.least a.text.now c.if-text-gt65536.false c.read_header-header.result c.read_header-header.ensures.value _ c.in_err-n.was))) in
    record { value = proved.0; outcome_value = proved.1 })

pub read_rows-requires : goal.read_rows-requires
read_rows-requires c =
    let proved = limits c.args.least c.args.text.now c.read_header-header.result c.read_header-header.ensures.value _ _ c.in_ok-n.was in
    record { n_le_most_variables = proved.0; m_le_most_rows = proved.1 }

pub returns : goal.returns
returns c =
    let a = c.args in
    let proved = table-said (table_of a.least a.text.now)
    (c.read_rows.ensures
    ∙ sym (ap table_read
    (by_header a.least a.text.now c.if-text-gt65536.false c.read_header-header.result c.read_header-header.ensures.value _ c.in_ok-n.was))) in
    record { value = proved.0; outcome_value = proved.1 }
