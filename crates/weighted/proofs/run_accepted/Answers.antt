-- `run_accepted` meets its contract: the gathered words of accepted tables hold exactly their rows, and the index is theirs.
use mathlib.Core.Path.{ap, ap₂, ◌∙◌}
use mathlib.Core.List.{List}
use Prim.Native.Nat.{ℕ}
use Rattle.words.specs.declared.Row.{Row}
use Rattle.tables.specs.Tables.{Tables, words_in}
use Rattle.state.specs.State.{state_of}
use Rattle.solver.specs.Step.{always}
use Rattle.solver.specs.Entries.{run_with}
use Rattle.indexed.specs.Continuing.{Continued, continued_by, steps_taken}
use Rattle.indexed.proofs.Made.{gathered-made, made-rows, made}
use Rattle.indexed.proofs.Running.{of_run}
use Rattle.weighted.specs.Weights.{weighted_rule}
use Rattle.weighted.proofs.run_accepted.Goals as goal
use Rattle.weighted.proofs.run_accepted.Goals.{Start}

-- the tables at the start
abbrev tables : Start → Tables
tables s = words_in s.args.tables

pub run_to_close-requires : goal.run_to_close-requires
run_to_close-requires c =
    let f =
    gathered-made c.args.d (tables (goal.at.run_to_close-requires c).Start) c.requires.public_value _ c.row_words-words.ensures _ c.rows.ensures
    _ c.fill.ensures in
    let x = made c.args.d (tables (goal.at.run_to_close-requires c).Start) _ f.0 _ c.rows-2.ensures c.requires.public_value _ f.1 in
    record { indexed = of_run _ _ _ _ x c.args.run.now c.requires.n_value; run_value = c.requires.run_value }

pub returns : goal.returns
returns c =
    let f =
    gathered-made c.args.d (tables (goal.at.returns c).Start) c.requires.public_value _ c.row_words-words.ensures _ c.rows.ensures
    _ c.fill.ensures in
    let is = ap₂ (λ (n : ℕ) (rows : List Row). continued_by n (run_with weighted_rule n (always rows) c.args.times (state_of c.args.run.now)))
    c.requires.n_value (made-rows c.args.d (tables (goal.at.returns c).Start) _ f.0 _ c.rows-2.ensures) in
    record { value = c.run_to_close.ensures.value ∙ ap steps_taken is; run_after = c.run_to_close.ensures.run_after ∙ ap (λ (c : Continued). c.run) is }
