-- `step` meets its contract: the outcome of the checks decides.
use mathlib.Core.Path.{refl, sym, ◌∙◌}
use Rattle.refusals.proofs.Outcomes.{passed_on}
use Rattle.tables.specs.Tables.{Tables, words_in}
use Rattle.solver.proofs.Entries.{passed, step-taken, step-refused, step-said}
use Rattle.solver.proofs.step.Goals as goal
use Rattle.solver.proofs.step.Goals.{Start}

-- the tables at the start
abbrev tables : Start → Tables
tables s = words_in s.args.tables

pub returns-in_err-check_all : goal.returns-in_err-check_all
returns-in_err-check_all c =
    rw (passed_on _ _ c.from_residual.ensures.1) (let proved = step-said c.args.d _ c.args.run.now
    (step-refused c.args.d _ c.args.run.now _ (sym c.in_err-check_all.was ∙ c.check_all.ensures.value) _ refl) in
    record { value = proved.0; run_after = proved.1; result_value = proved.2 })

pub giant_step-requires : goal.giant_step-requires
giant_step-requires c =
    let p = passed c.args.d (tables (goal.at.giant_step-requires c).Start) c.args.run.now _ c.check_all.ensures.value c.in_ok-check_all.was in
    record { public_value = p.taken; run_value = p.formed; n_value = p.same }

pub returns : goal.returns
returns c =
    let proved = step-said c.args.d _ c.args.run.now
    (step-taken c.args.d _ c.args.run.now _ (sym c.in_ok-check_all.was ∙ c.check_all.ensures.value) refl _
    c.giant_step.ensures) in
    record { value = proved.0; run_after = proved.1; result_value = proved.2 }
