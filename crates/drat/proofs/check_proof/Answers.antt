-- `check_proof` meets its contract: the tables are accepted, the text is not overlong, and its lines are checked against their rows.
use mathlib.Core.Path.{◌≡◌, sym, ◌∙◌}
use native.Mathlib.Omega.{arith}
use borrow.Author.Rules.{rules}
use Rattle.std.specs.Prelude.{Ok}
use Rattle.refusals.specs.Checks.{outcome}
use Rattle.refusals.proofs.Outcomes.{outcome-said, passed_on}
use Rattle.tables.specs.Tables.{Tables, words_in}
use Rattle.tables.specs.Acceptance.{table_checks}
use Rattle.tables.proofs.Accepted.{accepted}
use Rattle.drat.proofs.Entry.{tables-refused, overlong, lines_checked}
use Rattle.drat.proofs.check_proof.Goals as goal
use Rattle.drat.proofs.check_proof.Goals.{In_ok-accepted, Start}

-- the tables
abbrev tables : Start → Tables
tables s = words_in s.args.tables

-- they are accepted
taken : (c : In_ok-accepted) → outcome (table_checks c.args.d (tables (goal.at.In_ok-accepted c).Start)) ≡ Ok tt
taken c = sym c.accept-accepted.ensures.value ∙ c.in_ok-accepted.was

pub returns-in_err-accepted : goal.returns-in_err-accepted
returns-in_err-accepted c =
    rw (passed_on _ _ c.from_residual.ensures.1) (let proved = outcome-said
    (tables-refused c.args.d (tables (goal.at.returns-in_err-accepted c).Start) c.args.text.now _
    (sym c.accept-accepted.ensures.value ∙ c.in_err-accepted.was)) in
    record { value = proved.0; result_value = proved.1 })

pub returns-then-text-gt65536 : goal.returns-then-text-gt65536
returns-then-text-gt65536 c =
    let proved = outcome-said (overlong c.args.d (tables (goal.at.returns-then-text-gt65536 c).Start) c.args.text.now
    (taken (goal.at.returns-then-text-gt65536 c).In_ok-accepted) (omega arith)) in
    record { value = proved.0; result_value = proved.1 }

pub fill-rows-requires : goal.fill-rows-requires
fill-rows-requires c =
    record { public_value = taken (goal.at.fill-rows-requires c).In_ok-accepted; in_bounds = search rules }

pub check_lines-requires : goal.check_lines-requires
check_lines-requires c =
    record {
      n_bound = (accepted c.args.d (tables (goal.at.check_lines-requires c).Start) (taken (goal.at.check_lines-requires c).In_ok-accepted)).size.n-most;
      count_bound = c.fill-rows.ensures.upper_bound;
      in_bounds = search rules;
    }

pub returns : goal.returns
returns c =
    let proved = outcome-said
    (lines_checked c.args.d (tables (goal.at.returns c).Start) c.args.text.now (taken (goal.at.returns c).In_ok-accepted) (omega arith) _
    c.fill-rows.ensures.result_after c.check_lines.result
    c.check_lines.ensures) in
    record { value = proved.0; result_value = proved.1 }
