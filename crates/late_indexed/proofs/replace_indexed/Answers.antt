-- `replace_indexed` meets its contract: tables, index, run and number are judged first, then the condition decides, and index and number follow from the
-- old and the new row.
use mathlib.Core.Path.{sym, ap, ◌∙◌}
use native.Mathlib.Omega.{arith}
use Rattle.refusals.proofs.Outcomes.{outcome-said, passed_on}
use Rattle.tables.specs.Tables.{Tables, all_tables}
use Rattle.late_indexed.proofs.Replacing.{all-kept, first-refused, number-few, decided-alike, tables-alike}
use Rattle.late_indexed.proofs.Replacing.{row_number, index-then, number-after}
use Rattle.late_indexed.proofs.replace_indexed.Goals as goal
use Rattle.late_indexed.proofs.replace_indexed.Goals.{Start}

-- the tables at the start
abbrev tables : Start → Tables
tables s = all_tables s.args.left.now s.args.right.now s.args.public.now

pub returns-in_err-check_indexed : goal.returns-in_err-check_indexed
returns-in_err-check_indexed c =
    let t = tables (goal.at.returns-in_err-check_indexed c).Start in
    let r = c.in_err-check_indexed.field-0.0 in
    rw (passed_on _ _ c.from_residual.ensures.1) (let e = first-refused c.args.d t c.args.index.now c.args.run c.args.number.now c.args.condition r
    (sym c.in_err-check_indexed.was ∙ c.check_indexed.ensures.value) in
    let k = all-kept c.args.d t c.args.index.now c.args.run c.args.number.now c.args.condition r e in
    record {
      value = e;
      left_after = ap (λ (x : Tables). x.left) k.1;
      right_after = ap (λ (x : Tables). x.right) k.1;
      index_after = k.2;
      number_after = k.0;
      result_value = (outcome-said e).1;
    })

pub returns-in_err-replace : goal.returns-in_err-replace
returns-in_err-replace c =
    let t = tables (goal.at.returns-in_err-replace c).Start in
    let r = c.in_err-replace.field-0.0 in
    let passed = sym c.check_indexed.ensures.value ∙ c.in_ok-check_indexed.was in
    rw (passed_on _ _ c.from_residual-in_err-replace.ensures.1) (let e = sym c.in_err-replace.was ∙ c.replace.ensures.value
    ∙ decided-alike c.args.d t c.args.index.now c.args.run c.args.number.now c.args.condition passed in
    let k = all-kept c.args.d t c.args.index.now c.args.run c.args.number.now c.args.condition r e in
    let alike = tables-alike c.args.d t c.args.index.now c.args.run c.args.number.now c.args.condition passed in
    record {
      value = e;
      left_after = c.replace.ensures.left_after ∙ ap (λ (x : Tables). x.left) alike;
      right_after = c.replace.ensures.right_after ∙ ap (λ (x : Tables). x.right) alike;
      index_after = k.2;
      number_after = k.0;
      result_value = (outcome-said e).1;
    })

pub overflow_sub-condition : goal.overflow_sub-condition
overflow_sub-condition c =
    let t = tables (goal.at.overflow_sub-condition c).Start in
    omega (
      arith,
      (row_number c.args.d t c.args.index.now c.args.run c.args.number.now c.args.condition
          (sym c.check_indexed.ensures.value ∙ c.in_ok-check_indexed.was) (sym c.replace.ensures.value ∙ c.in_ok-replace.was)).0,
    )

pub count_row-requires : goal.count_row-requires
count_row-requires c =
    number-few c.args.d (tables (goal.at.count_row-requires c).Start) c.args.index.now c.args.run c.args.number.now c.args.condition
    (sym c.check_indexed.ensures.value ∙ c.in_ok-check_indexed.was)

pub returns : goal.returns
returns c =
    let t = tables (goal.at.returns c).Start in
    let passed = sym c.check_indexed.ensures.value ∙ c.in_ok-check_indexed.was in
    let taken = sym c.replace.ensures.value ∙ c.in_ok-replace.was in
    let e = sym taken ∙ decided-alike c.args.d t c.args.index.now c.args.run c.args.number.now c.args.condition passed in
    let alike = tables-alike c.args.d t c.args.index.now c.args.run c.args.number.now c.args.condition passed in
    record {
      value = e;
      left_after = c.replace.ensures.left_after ∙ ap (λ (x : Tables). x.left) alike;
      right_after = c.replace.ensures.right_after ∙ ap (λ (x : Tables). x.right) alike;
      index_after = c.replace_row.ensures
          ∙ index-then c.args.d t c.args.index.now c.args.run c.args.number.now c.args.condition passed taken _ c.old_row-old.ensures;
      number_after = c.count_row.ensures
          ∙ number-after c.args.d t c.args.index.now c.args.run c.args.number.now c.args.condition passed taken;
      result_value = (outcome-said e).1;
    }
