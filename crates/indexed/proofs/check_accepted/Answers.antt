-- `check_accepted` meets its contract: the sets and the tally of the words are those of the tables' rows.
use mathlib.Core.Path.{ap, ◌∙◌}
use mathlib.Core.List.{List}
use Prim.Native.Nat.{◌^◌, ◌<◌}
use native.Mathlib.Omega.{arith}
use Rattle.refusals.specs.Checks.{outcome}
use Rattle.words.specs.declared.Row.{Row}
use Rattle.tables.specs.Tables.{Tables, words_in}
use Rattle.indexed.specs.Entries.{indexed_checks}
use Rattle.indexed.proofs.Made.{made-rows, made}
use Rattle.indexed.proofs.Checks.{judged}
use Rattle.indexed.proofs.check_accepted.Goals as goal
use Rattle.indexed.proofs.check_accepted.Goals.{Start}

-- the tables at the start
abbrev tables : Start → Tables
tables s = words_in s.args.tables

t_low : (s : Start) → s.args.run.t < 2 ^ 32
t_low s = omega arith

f-low : (s : Start) → s.args.run.f < 2 ^ 32
f-low s = omega arith

pub returns : goal.returns
returns c =
    let words_are = c.make_index-words.ensures.d_value in
    judged c.args.d.n _ _ _
    (made c.args.d (tables (goal.at.returns c).Start) _ words_are _ c.rows.ensures c.requires _ c.make_index-words.ensures.index_after) _ c.args.run
    c.args.number
    (t_low (goal.at.returns c).Start) (f-low (goal.at.returns c).Start) _ c.survey-tally.ensures _ c.check_kept.ensures
    ∙ ap (λ (rows : List Row). outcome (indexed_checks c.args.d.n rows c.args.index.now c.args.run c.args.number))
    (made-rows c.args.d (tables (goal.at.returns c).Start) _ words_are _ c.rows.ensures)
