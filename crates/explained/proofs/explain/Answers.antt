-- `explain` meets its contract: a closed run tells nothing, and over the fronts of accepted buffers an open one tells what it does over the tables.
use mathlib.Core.Path.{◌≡◌, ◌∙◌}
use mathlib.Core.Bool.{true}
use Prim.Native.Nat.{◌*◌, ◌≤◌}
use native.Mathlib.Omega.{arith}
use lib.Seq.{length-take-le}
use Rattle.tables.specs.Tables.{Tables, words_in}
use Rattle.tables.proofs.Accepted.{Accepted, accepted}
use Rattle.state.specs.State.{state_of}
use Rattle.state.specs.WellFormed.{well_formed}
use Rattle.state.specs.declared.Run.{Run}
use Rattle.state.proofs.WellFormedLaws.{formed_e}
use Rattle.state.proofs.HeldRun.{formed_run_e, length-levels}
use Rattle.explained.proofs.Telling.{explains_open, explains_satisfied, explains_refuted}
use Rattle.explained.proofs.Fronts.{told_of_fronts}
use Rattle.explained.proofs.explain.Goals as goal
use Rattle.explained.proofs.explain.Goals.{In-Open, Start}

-- at most 32 levels are used
deep : (run : Run) → well_formed run ≡ true → run.depth ≤ 32
deep run e =
    let formed = formed_run_e run e in
    omega (arith, (formed_e run.n (state_of run) formed.state).few, length-levels run.depth run.levels, formed.most)

-- the tables at the start
abbrev tables : Start → Tables
tables s = words_in s.args.tables

-- what is known of the tables there
known : (c : In-Open) → Accepted c.args.d (tables (goal.at.In-Open c).Start)
known c = accepted c.args.d (tables (goal.at.In-Open c).Start) c.requires.public_value

pub returns-in-Satisfied : goal.returns-in-Satisfied
returns-in-Satisfied c = explains_satisfied _ _ (state_of c.args.run) c.in-Satisfied.is

pub returns-in-Refuted : goal.returns-in-Refuted
returns-in-Refuted c = explains_refuted _ _ (state_of c.args.run) c.in-Refuted.is

pub tell-requires : goal.tell-requires
tell-requires c =
    let a = known (goal.at.tell-requires c).In-Open in
    rw (c.rows.ensures.left, c.rows.ensures.right, c.rows.ensures.public) record {
      left_len_bound = omega (arith, length-take-le (2 * c.args.d.left) c.args.tables.left.now a.left-length, a.size.left-most);
      right_len_bound = omega (arith, length-take-le (2 * c.args.d.right) c.args.tables.right.now a.right_length, a.size.right_most);
      public_len_bound =
          omega (arith, length-take-le (2 * c.args.d.public) c.args.tables.public.now a.public_length, a.size.public_most);
      depth_bound =
          deep c.args.run c.requires.run_value;
    }

pub returns : goal.returns
returns c =
    c.tell.ensures
    ∙ rw (c.rows.ensures.left, c.rows.ensures.right, c.rows.ensures.public)
    (told_of_fronts c.args.d (tables (goal.at.returns c).Start) c.requires.public_value (state_of c.args.run))
    ∙ explains_open _ _ (state_of c.args.run) c.in-Open.is
