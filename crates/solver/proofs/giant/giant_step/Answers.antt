-- `giant_step` meets its contract: what the rule that applies makes of an open run is the run of the next state, and a closed run stays.
use mathlib.Core.Path.{◌≡◌, ◌∙◌}
use lib.ListN.{length}
use native.Mathlib.Omega.{arith}
use Rattle.solver.proofs.HeldStep.{open_step, satisfied_stays, refuted_stays}
use Rattle.solver.proofs.giant.giant_step.Goals as goal
use Rattle.solver.proofs.giant.giant_step.Goals.{Start}

-- a run has 32 levels
room : (s : Start) → length s.args.run.levels ≡ 32
room s = omega arith

pub returns-in-Open : goal.returns-in-Open
returns-in-Open c =
    c.follow.ensures
    ∙ open_step _ _ c.args.run c.requires.n_value c.requires.run_value _ c.rule-rule.ensures (room (goal.at.returns-in-Open c).Start) c.in-Open.is

pub returns-in-Satisfied : goal.returns-in-Satisfied
returns-in-Satisfied c =
    satisfied_stays _ _ c.args.run c.requires.n_value c.requires.run_value (room (goal.at.returns-in-Satisfied c).Start) c.in-Satisfied.is

pub returns-in-Refuted : goal.returns-in-Refuted
returns-in-Refuted c =
    refuted_stays _ _ c.args.run c.requires.n_value c.requires.run_value (room (goal.at.returns-in-Refuted c).Start) c.in-Refuted.is
