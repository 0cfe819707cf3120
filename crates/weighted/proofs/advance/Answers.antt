-- `advance` meets its contract: a closed run stays, and what the rule of the fronts, which is the tables' rule, makes of an open one is the next state's run.
use mathlib.Core.Path.{◌≡◌, ◌∙◌}
use Prim.Native.Nat.{◌*◌}
use native.Mathlib.Omega.{arith}
use lib.ListN.{length}
use lib.Seq.{length-take-le}
use Rattle.tables.specs.Tables.{Tables, words_in}
use Rattle.tables.proofs.Accepted.{Accepted, accepted}
use Rattle.solver.proofs.HeldStep.{open_step-with, satisfied_stays_with, refuted_stays_with}
use Rattle.weighted.specs.Weights.{weighted_rule}
use Rattle.weighted.proofs.Applying.{weighted_applies, weighted_of_fronts}
use Rattle.weighted.proofs.advance.Goals as goal
use Rattle.weighted.proofs.advance.Goals.{In-Open, Start}

-- a run has 32 levels
room : (s : Start) → length s.args.run.levels ≡ 32
room s = s.well_formed.1.1.0.1.1.1.1.1.1.1.0.1.0.1

-- the tables there, and what is known of them
abbrev lent : Start → Tables
lent s = words_in s.args.tables

fronts : (c : In-Open) → Accepted c.args.d (lent (goal.at.In-Open c).Start)
fronts c = accepted c.args.d (lent (goal.at.In-Open c).Start) c.requires.public_value

pub returns-in-Satisfied : goal.returns-in-Satisfied
returns-in-Satisfied c =
    satisfied_stays_with weighted_rule weighted_applies _ _ c.args.run c.requires.n_value c.requires.run_value (room (goal.at.returns-in-Satisfied c).Start)
    c.in-Satisfied.is

pub returns-in-Refuted : goal.returns-in-Refuted
returns-in-Refuted c =
    refuted_stays_with weighted_rule weighted_applies _ _ c.args.run c.requires.n_value c.requires.run_value (room (goal.at.returns-in-Refuted c).Start)
    c.in-Refuted.is

pub find_rule-rule-requires : goal.find_rule-rule-requires
find_rule-rule-requires c =
    let a = fronts (goal.at.find_rule-rule-requires c).In-Open in
    rw (c.rows.ensures.left, c.rows.ensures.right, c.rows.ensures.public) record {
      left_len_bound = omega (arith, length-take-le (2 * c.args.d.left) c.args.tables.left.now a.left-length, a.size.left-most);
      right_len_bound = omega (arith, length-take-le (2 * c.args.d.right) c.args.tables.right.now a.right_length, a.size.right_most);
      public_len_bound =
          omega (arith, length-take-le (2 * c.args.d.public) c.args.tables.public.now a.public_length, a.size.public_most);
    }

pub returns : goal.returns
returns c =
    c.follow.ensures
    ∙ open_step-with weighted_rule weighted_applies _ _ c.args.run c.requires.n_value c.requires.run_value _
    (c.find_rule-rule.ensures ∙ rw (c.rows.ensures.left, c.rows.ensures.right, c.rows.ensures.public)
    (weighted_of_fronts c.args.d (lent (goal.at.returns c).Start) c.requires.public_value c.args.run.t c.args.run.f))
    (room (goal.at.returns c).Start)
    c.in-Open.is
