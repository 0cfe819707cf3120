-- `run_accepted` meets its contract: the rows of the words are the tables'.
use mathlib.Core.Path.{ap₂, ◌∙◌}
use mathlib.Core.List.{List}
use Prim.Native.Nat.{ℕ}
use Rattle.words.specs.declared.Row.{Row}
use Rattle.tables.specs.Tables.{Tables, words_in}
use Rattle.solver.specs.Step.{always}
use Rattle.solver.specs.Entries.{run_from}
use Rattle.state.specs.State.{state_of}
use Rattle.indexed.specs.Tallied.{reached_by}
use Rattle.indexed.proofs.Made.{made-rows, made}
use Rattle.indexed.proofs.Running.{of_run}
use Rattle.indexed.proofs.run_accepted.Goals as goal
use Rattle.indexed.proofs.run_accepted.Goals.{Start}

-- the tables at the start
abbrev tables : Start → Tables
tables s = words_in s.args.tables

pub run_to_close-requires : goal.run_to_close-requires
run_to_close-requires c =
    let x = made c.args.d (tables (goal.at.run_to_close-requires c).Start) _ c.make_index-words.ensures.d_value _ c.rows.ensures c.requires.public_value _
    c.make_index-words.ensures.index_after in
    record { indexed = of_run _ _ _ _ x c.args.run c.requires.n_value; run_value = c.requires.run_value }

pub returns : goal.returns
returns c =
    c.run_to_close.ensures
    ∙ ap₂ (λ (n : ℕ) (rows : List Row). reached_by n (run_from n (always rows) c.args.times (state_of c.args.run))) c.requires.n_value
    (made-rows c.args.d (tables (goal.at.returns c).Start) _ c.make_index-words.ensures.d_value _ c.rows.ensures)
