-- `make_index` meets its contract: the gathered words of accepted tables hold exactly their rows.
use Rattle.tables.specs.Tables.{Tables, words_in}
use Rattle.indexed.proofs.Made.{gathered-made}
use Rattle.indexed.proofs.make_index.Goals as goal
use Rattle.indexed.proofs.make_index.Goals.{Start}

-- the tables at the start
abbrev tables : Start → Tables
tables s = words_in s.args.tables

pub returns : goal.returns
returns c =
    let proved = gathered-made c.args.d (tables (goal.at.returns c).Start) c.requires _ c.row_words-words.ensures _ c.rows.ensures _ c.fill.ensures in
    record { d_value = proved.0; index_after = proved.1 }
