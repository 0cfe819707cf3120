-- `check_words` meets its contract: each test of the code is a condition of the definition, in its order.
use mathlib.Core.Path.{◌≡◌, sym, ◌∙◌}
use native.Mathlib.Omega.{arith}
use Rattle.std.specs.Prelude.{Ok}
use Rattle.refusals.specs.Checks.{outcome}
use Rattle.dimensions.proofs.Limits.{within}
use Rattle.tables.specs.Tables.{Tables, words_in}
use Rattle.tables.specs.Acceptance.{table_checks}
use Rattle.generator.proofs.Room.{ceiling-small}
use Rattle.refusals.proofs.Outcomes.{outcome-said, passed_on}
use Rattle.repeats.proofs.RepeatChecks.{sizes-taken, refuse_tables, refuse_gates, take_words}
use Rattle.repeats.proofs.check_words.Goals as goal
use Rattle.repeats.proofs.check_words.Goals.{In_ok-accept, Start}

-- ---- what is known there

abbrev tables : Start → Tables
tables s = words_in s.args.tables

taken : (c : In_ok-accept) → outcome (table_checks c.args.d (tables (goal.at.In_ok-accept c).Start)) ≡ Ok tt
taken c = sym c.accept.ensures.value ∙ c.in_ok-accept.was

pub returns-in_err-accept : goal.returns-in_err-accept
returns-in_err-accept c =
    rw (passed_on _ _ c.from_residual.ensures.1) (let proved = outcome-said
    (refuse_tables c.args.d (tables (goal.at.returns-in_err-accept c).Start) c.args.gates _
    (sym c.accept.ensures.value ∙ c.in_err-accept.was)) in
    record { value = proved.0; result_value = proved.1 })

pub overflow_mul-ceiling : goal.overflow_mul-ceiling
overflow_mul-ceiling c =
    omega (
      arith,
      c.ceiling.ensures,
      ceiling-small c.args.d
          (within c.args.d (sizes-taken c.args.d (tables (goal.at.overflow_mul-ceiling c).Start) (taken (goal.at.overflow_mul-ceiling c).In_ok-accept))),
    )

pub returns-then-gates-ceiling : goal.returns-then-gates-ceiling
returns-then-gates-ceiling c =
    let proved = outcome-said
    (refuse_gates c.args.d (tables (goal.at.returns-then-gates-ceiling c).Start) c.args.gates (taken (goal.at.returns-then-gates-ceiling c).In_ok-accept)
    (rw c.ceiling.ensures at c.if-gates-ceiling.true)) in
    record { value = proved.0; result_value = proved.1 }

pub returns : goal.returns
returns c =
    let proved = outcome-said
    (take_words c.args.d (tables (goal.at.returns c).Start) c.args.gates (taken (goal.at.returns c).In_ok-accept)
    (rw c.ceiling.ensures at c.if-gates-ceiling.false)) in
    record { value = proved.0; result_value = proved.1 }
