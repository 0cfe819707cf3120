-- `run_indexed` meets its contract: count and verdict are those of the run that the fresh one's steps reach.
use Rattle.tables.specs.Tables.{Tables, words_in}
use Rattle.tables.proofs.Accepted.{accepted}
use Rattle.indexed.proofs.Continuing.{fresh_ready, fresh-answer}
use Rattle.indexed.proofs.run_indexed.Goals as goal
use Rattle.indexed.proofs.run_indexed.Goals.{Start}

-- the tables at the start
abbrev tables : Start → Tables
tables s = words_in s.args.tables

pub run_accepted-reached-requires : goal.run_accepted-reached-requires
run_accepted-reached-requires c =
    let size = (accepted c.args.d (tables (goal.at.run_accepted-reached-requires c).Start) c.requires).size in
    let ready = fresh_ready c.args.d.n size.n_least size.n-most _ c.fresh.ensures in
    record { public_value = c.requires; run_value = ready.0; n_value = ready.1 }

pub returns : goal.returns
returns c =
    fresh-answer _ _ _ _ c.fresh.ensures _ c.run_accepted-reached.ensures _ c.verdict_of.ensures.value
