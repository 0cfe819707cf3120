-- `step_accepted` meets its contract: the rows of the words are the tables'.
use Rattle.tables.specs.Tables.{Tables, words_in}
use Rattle.indexed.proofs.Made.{made}
use Rattle.indexed.proofs.step_accepted.Goals as goal
use Rattle.indexed.proofs.step_accepted.Goals.{Start}

-- the tables at the start
abbrev tables : Start → Tables
tables s = words_in s.args.tables

pub step_rows-requires : goal.step_rows-requires
step_rows-requires c =
    made c.args.d (tables (goal.at.step_rows-requires c).Start) _ c.make_index-words.ensures.d_value _ c.rows.ensures c.requires _
    c.make_index-words.ensures.index_after
