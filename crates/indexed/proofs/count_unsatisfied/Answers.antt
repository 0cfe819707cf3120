-- `count_unsatisfied` meets its contract: the number of the tally is that of the rows.
use native.Mathlib.Omega.{arith}
use Rattle.tables.specs.Tables.{Tables, words_in}
use Rattle.indexed.proofs.Made.{counted_is}
use Rattle.indexed.proofs.count_unsatisfied.Goals as goal
use Rattle.indexed.proofs.count_unsatisfied.Goals.{Start}

-- the tables at the start
abbrev tables : Start → Tables
tables s = words_in s.args.tables

pub returns : goal.returns
returns c =
    counted_is c.args.d (tables (goal.at.returns c).Start) _ c.make_index-words.ensures.d_value _ c.rows.ensures c.requires _
    c.make_index-words.ensures.index_after
    _ _ (omega arith) (omega arith) _ c.survey-tally.ensures
