-- `row_words` meets its contract: stores one after the other are one run of stores.
use Rattle.tables.specs.Tables.{Tables, words_in}
use Rattle.occurrences.proofs.Storing.{gathered-is}
use Rattle.occurrences.proofs.row_words.Goals as goal
use Rattle.occurrences.proofs.row_words.Goals.{Start}

-- the tables' words
abbrev tables : Start → Tables
tables s = words_in s.args.tables

pub returns : goal.returns
returns c =
    gathered-is c.args.d (tables (goal.at.returns c).Start) _ _ _ c.store-right_at.result c.store-public_at.result
    c.store-right_at.ensures.value c.store-right_at.ensures.all_after
    c.store-public_at.ensures.value c.store-public_at.ensures.all_after c.store.ensures.all_after
