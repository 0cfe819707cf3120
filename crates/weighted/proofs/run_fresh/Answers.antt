-- `run_fresh` meets its contract: count and verdict are those of the run that the fresh one's steps reach.
use Rattle.tables.specs.Tables.{Tables, words_in}
use Rattle.tables.proofs.Accepted.{accepted}
use Rattle.indexed.proofs.Continuing.{fresh_ready}
use Rattle.weighted.proofs.KeptRun.{fresh-answer-with}
use Rattle.weighted.proofs.run_fresh.Goals as goal
use Rattle.weighted.proofs.run_fresh.Goals.{Start}

-- the tables at the start
abbrev tables : Start → Tables
tables s = words_in s.args.tables

pub run_accepted-taken-requires : goal.run_accepted-taken-requires
run_accepted-taken-requires c =
    let size = (accepted c.args.d (tables (goal.at.run_accepted-taken-requires c).Start) c.requires).size in
    let ready = fresh_ready c.args.d.n size.n_least size.n-most _ c.fresh-run.ensures in
    record { public_value = c.requires; run_value = ready.0; n_value = ready.1 }

pub returns : goal.returns
returns c =
    let e = c.run_accepted-taken.ensures in
    fresh-answer-with _ _ _ _ c.fresh-run.ensures _ e.value _ e.run_after _ c.verdict_of.ensures.value
