-- `run_to_close` meets its contract. The loop's invariant: what is left of the budget from the present run gives what the whole gives from the fresh one. The
-- measure is what is left of the budget.
use mathlib.Core.Path.{sym, ◌∙◌}
use native.Mathlib.Omega.{arith}
use Rattle.tables.specs.Tables.{Tables, words_in}
use Rattle.tables.proofs.Accepted.{accepted}
use Rattle.solver.proofs.BudgetedRun.{running_fresh, running_less, running_on, running_end}
use Rattle.solver.proofs.run_to_close.Goals as goal
use Rattle.solver.proofs.run_to_close.Goals.{Start}

-- the tables at the start
abbrev tables : Start → Tables
tables s = words_in s.args.tables

pub loop-d-init : goal.loop-d-init
loop-d-init c =
    let a = accepted c.args.d (tables (goal.at.loop-d-init c).Start) c.requires in
    running_fresh _ _ _ a.size.n_least a.size.n-most _ c.fresh-run.ensures

pub giant_step-run-requires : goal.giant_step-run-requires
giant_step-run-requires c =
    record { public_value = c.requires; run_value = c.loop-d.invariant.formed; n_value = c.loop-d.invariant.same }

pub overflow_add-count : goal.overflow_add-count
overflow_add-count c = record {
  fits = omega (
    arith,
    running_less _ _ _ _ _ _ c.loop-d.invariant
        (sym c.goes_on.ensures ∙ c.loop-d-test.true),
  );
}

pub loop-d-smaller : goal.loop-d-smaller
loop-d-smaller c = omega (arith, running_less _ _ _ _ _ _ c.loop-d.invariant (sym c.goes_on.ensures ∙ c.loop-d-test.true))

pub loop-d-preserved : goal.loop-d-preserved
loop-d-preserved c = running_on _ _ _ _ _ _ c.loop-d.invariant (sym c.goes_on.ensures
    ∙ c.loop-d-test.true) _ c.giant_step-run.ensures

pub returns : goal.returns
returns c = running_end _ _ _ _ _ c.loop-d.invariant (sym c.goes_on.ensures ∙ c.loop-d-test.false)
    _ c.verdict_of.ensures.value
