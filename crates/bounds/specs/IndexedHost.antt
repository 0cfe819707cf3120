-- What a host does with its tables, its index, its run and its number: calls of `step_indexed` and `replace_indexed` in any order. Document
-- 02, Req 03 and Req 06.
-- Ask: What does a refused call ask for?
use Rattle.std.specs.Prelude.{ℕ, ◌+◌, List, [], ◌∷◌}
use Rattle.dimensions.specs.declared.Dimensions.{Dimensions}
use Rattle.tables.specs.Tables.{Tables}
use Rattle.tables.specs.Rows.{rows_of}
use Rattle.state.specs.declared.Run.{Run}
use Rattle.state.specs.State.{fresh, run_of}
use Rattle.occurrences.specs.Index.{index_of}
use Rattle.tally.specs.Tallies.{unsatisfied_rows}
use Rattle.indexed.specs.Entries.{stepped_indexed}
use Rattle.late_indexed.specs.Replacement.{tables_then, index_then, number_then}
use Rattle.late_runs.specs.Host.{Action, Step, Replace}
use Rattle.bounds.specs.CountingHost.{step_count}

-- what such a host holds, and the steps so far
pub record IndexedHost : Type 0 where
  pub tables : Tables
  pub index : List ℕ
  pub run : Run
  pub number : ℕ
  pub count : ℕ

-- what each call leaves, refusals included
unfoldable pub act_indexed : Dimensions → IndexedHost → Action → IndexedHost
unfolding stepped_indexed tables_then index_then number_then
act_indexed d h Step =
    let s = stepped_indexed d h.tables h.index h.run h.number in
    record { tables = h.tables; index = h.index; run = s.run; number = s.number; count = h.count + step_count h.run }
act_indexed d h (Replace c) = record {
  tables = tables_then d h.tables h.index h.run h.number c;
  index = index_then d h.tables h.index h.run h.number c;
  run = h.run;
  number = number_then d h.tables h.index h.run h.number c;
  count = h.count;
}

-- one call after the other
unfoldable pub play_indexed : Dimensions → IndexedHost → List Action → IndexedHost
unfolding act_indexed
play_indexed d h [] = h
play_indexed d h (a ∷ more) = play_indexed d (act_indexed d h a) more

-- the host before its first call: the tables' index, the fresh run and its number
abbrev pub started_indexed : Dimensions → Tables → IndexedHost
started_indexed d tables = record {
  tables = tables;
  index = index_of (rows_of d tables);
  run = run_of d.n fresh;
  number = unsatisfied_rows d.n (rows_of d tables) 0 0;
  count = 0;
}
