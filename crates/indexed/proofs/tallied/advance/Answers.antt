-- `advance` meets its contract: an open run follows the rule read off its tally, and a closed one stays.
use mathlib.Core.Path.{◌≡◌}
use lib.ListN.{length}
use Rattle.indexed.proofs.Advancing.{open_advance, satisfied_advance, refuted_advance}
use Rattle.indexed.proofs.tallied.advance.Goals as goal
use Rattle.indexed.proofs.tallied.advance.Goals.{Start}

-- a run has 32 levels
room : (s : Start) → length s.args.held.run.levels ≡ 32
room s = s.well_formed.1.1.1.0.1.1.0.1.1.1.1.1.1.1.0.1.0.1

pub returns-in-Open : goal.returns-in-Open
returns-in-Open c =
    open_advance _ _ _ c.args.held c.requires.indexed c.requires.exact (room (goal.at.returns-in-Open c).Start) c.in-Open.is _ c.rule-rule.ensures
    _ c.follow-next.ensures _ c.after_rule.ensures

pub returns-in-Satisfied : goal.returns-in-Satisfied
returns-in-Satisfied c =
    satisfied_advance _ _ _ c.args.held c.requires.indexed c.requires.exact (room (goal.at.returns-in-Satisfied c).Start) c.in-Satisfied.is

pub returns-in-Refuted : goal.returns-in-Refuted
returns-in-Refuted c =
    refuted_advance _ _ _ c.args.held c.requires.indexed c.requires.exact (room (goal.at.returns-in-Refuted c).Start) c.in-Refuted.is
