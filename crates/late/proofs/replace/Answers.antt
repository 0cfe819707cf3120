-- `replace` meets its contract: the checks decide, and then one of the two tables has the row put in its place.
use mathlib.Core.Path.{◌≡◌, sym, ap, ◌∙◌}
use native.Mathlib.Omega.{arith}
use Rattle.std.specs.Prelude.{Ok}
use Rattle.refusals.specs.Checks.{outcome}
use Rattle.refusals.proofs.Outcomes.{outcome-said, passed_on}
use Rattle.tables.specs.Tables.{Tables, all_tables}
use Rattle.tables.proofs.Accepted.{accepted}
use Rattle.late.specs.Replacement.{late_checks}
use Rattle.late.proofs.Rows.{owned-number}
use Rattle.late.proofs.Checks.{Allowed, late_parts, after-refused, left-replaced, right_replaced}
use Rattle.late.proofs.replace.Goals as goal
use Rattle.late.proofs.replace.Goals.{In_ok-check_condition, Start}

-- the tables at the start
abbrev tables : Start → Tables
tables s = all_tables s.args.left.now s.args.right.now s.args.public.now

-- ---- what is known there

passes : (c : In_ok-check_condition) → outcome (late_checks c.args.d (tables (goal.at.In_ok-check_condition c).Start) c.args.run c.args.condition) ≡ Ok tt
passes c = sym c.check_condition.ensures ∙ c.in_ok-check_condition.was

allowed : (c : In_ok-check_condition) → Allowed c.args.d (tables (goal.at.In_ok-check_condition c).Start) c.args.run c.args.condition
allowed c = late_parts c.args.d (tables (goal.at.In_ok-check_condition c).Start) c.args.run c.args.condition (passes c)

pub returns-in_err-check_condition : goal.returns-in_err-check_condition
returns-in_err-check_condition c =
    rw (passed_on _ _ c.from_residual.ensures.1) (let e = sym c.check_condition.ensures ∙ c.in_err-check_condition.was in
    let q = after-refused c.args.d (tables (goal.at.returns-in_err-check_condition c).Start) c.args.run c.args.condition _ e in
    record {
      value = sym e;
      left_after = sym (ap (λ (t : Tables). t.left) q);
      right_after = sym (ap (λ (t : Tables). t.right) q);
      result_value = (outcome-said (sym e)).1;
    })

pub overflow_sub-number : goal.overflow_sub-number
overflow_sub-number c =
    omega (
      arith,
      (owned-number c.args.d c.args.condition.station c.args.condition.replaced
          (allowed (goal.at.overflow_sub-number c).In_ok-check_condition).fitting.owned).0,
    )

pub put-requires : goal.put-requires
put-requires c =
    let a = allowed (goal.at.put-requires c).In_ok-check_condition in
    let o = owned-number c.args.d c.args.condition.station c.args.condition.replaced a.fitting.owned in
    let l = (accepted c.args.d (tables (goal.at.put-requires c).Start) a.tables-taken).left-length in
    omega (arith, o.0, l)

pub returns-then-number-left_rows : goal.returns-then-number-left_rows
returns-then-number-left_rows c =
    let q = left-replaced c.args.d (tables (goal.at.returns-then-number-left_rows c).Start) c.args.run c.args.condition
    (passes (goal.at.returns-then-number-left_rows c).In_ok-check_condition) c.if-number-left_rows.true in
    record {
      value = sym (passes (goal.at.returns-then-number-left_rows c).In_ok-check_condition);
      left_after = c.put.ensures ∙ q.0;
      right_after = q.1;
      result_value = (outcome-said (sym (passes (goal.at.returns-then-number-left_rows c).In_ok-check_condition))).1;
    }

pub put-requires-2 : goal.put-requires-2
put-requires-2 c =
    let a = allowed (goal.at.put-requires-2 c).In_ok-check_condition in
    let o = owned-number c.args.d c.args.condition.station c.args.condition.replaced a.fitting.owned in
    let l = (accepted c.args.d (tables (goal.at.put-requires-2 c).Start) a.tables-taken).right_length in
    omega (arith, o.1, l)

pub returns : goal.returns
returns c =
    let q = right_replaced c.args.d (tables (goal.at.returns c).Start) c.args.run c.args.condition (passes (goal.at.returns c).In_ok-check_condition)
    c.if-number-left_rows.false in
    record {
      value = sym (passes (goal.at.returns c).In_ok-check_condition);
      left_after = q.0;
      right_after = c.put-2.ensures ∙ q.1;
      result_value = (outcome-said (sym (passes (goal.at.returns c).In_ok-check_condition))).1;
    }
