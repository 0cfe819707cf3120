-- What a step that is taken hands back: document 02, "The plain scan gives the same state after every step".
use Rattle.std.specs.Prelude.{ℕ, ◌≡◌, List, Ok}
use Rattle.dimensions.specs.declared.Dimensions.{Dimensions}
use Rattle.tables.specs.Tables.{Tables}
use Rattle.tables.specs.Rows.{rows_of}
use Rattle.state.specs.declared.Run.{Run}
use Rattle.solver.specs.Entries.{stepped}
use Rattle.tally.specs.Tallies.{unsatisfied_rows}
use Rattle.indexed.specs.Entries.{SteppedIndexed, stepped_indexed}

-- the tables, their index, the run before, and what the step gives
pub record SameState (d : Dimensions) (tables : Tables) (index : List ℕ) (run : Run) (next : SteppedIndexed) : Type 0 where
  -- the plain step's run
  pub plain : next.run ≡ (stepped d tables run).run
  -- its number, after a removed level too
  pub right : next.number ≡ unsatisfied_rows d.n (rows_of d tables) next.run.t next.run.f
  -- both are taken by the next step
  pub again : (stepped_indexed d tables index next.run next.number).outcome ≡ Ok tt
