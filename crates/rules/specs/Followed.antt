-- What a rule makes of a run, field by field: how the code goes. Of a well-formed run it is the run of the state after the rule (`held`,
-- `solver/proofs/HeldRules`).
use Rattle.std.specs.Prelude.{ℕ, ◌+◌, ◌-◌, true, false, cond, eqb, ltb, leb, get_or, set}
use Rattle.words.specs.Sets.{put}
use Rattle.scan.specs.declared.Rule.{Rule}
use Rattle.scan.specs.declared.Rule.TheVariants.{AllSatisfied, Conflict, Unit, Choice}
use Rattle.state.specs.declared.Level.{Level}
use Rattle.state.specs.declared.Run.{Run}
use Rattle.state.specs.declared.Standing.{Standing}
use Rattle.state.specs.declared.Standing.TheVariants.{Open, Satisfied, Refuted}
use Rattle.state.specs.State.{none}

-- the word with the variable; the word itself if it has no such bit
abbrev pub put_in : ℕ → ℕ → ℕ
put_in w v = cond (ltb v 32) (put w v) w

-- another standing, T and F; the levels are kept
abbrev pub keeping : Run → Standing → ℕ → ℕ → Run
keeping run standing t f = record { n = run.n; standing = standing; t = t; f = f; depth = run.depth; levels = run.levels }

-- the level at d removed: its T and F are restored, and its variable goes to F
abbrev pub removed : Run → ℕ → Level → Run
removed run d l = record {
  n = run.n;
  standing = Open;
  t = l.t;
  f = put_in l.f l.chosen;
  depth = d;
  levels = set run.levels d none;
}

-- T and F stored as a level, and the variable goes to T
abbrev pub stored : Run → ℕ → Run
stored run v = record {
  n = run.n;
  standing = Open;
  t = put_in run.t v;
  f = run.f;
  depth = run.depth + 1;
  levels = set run.levels run.depth (record { t = run.t; f = run.f; chosen = v });
}

-- the run after the rule; the run as it was where the last level is past the 32 that a run holds, or all 32 are used and one more is needed
abbrev pub followed : Run → Rule → Run
followed run AllSatisfied = keeping run Satisfied run.t run.f
followed run Conflict =
    cond (eqb run.depth 0) (keeping run Refuted run.t run.f)
    (cond (leb run.depth 32) (removed run (run.depth - 1) (get_or run.levels (run.depth - 1) none)) run)
followed run (Unit v true) = keeping run Open (put_in run.t v) run.f
followed run (Unit v false) = keeping run Open run.t (put_in run.f v)
followed run (Choice v) = cond (ltb run.depth 32) (stored run v) run
