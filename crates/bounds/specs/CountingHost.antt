-- What a host does with its tables and its run, in any order: steps, the run continued, the circuit repeated and late conditions. Each call
-- leaves what its contract says; the host adds up the steps. Document 02, "Fewer variables, fewer steps".
-- Ask: Does each call leave what its contract cites and add the steps that it says?
use Rattle.std.specs.Prelude.{ℕ, ◌+◌, cond, List, [], ◌∷◌}
use Rattle.dimensions.specs.declared.Dimensions.{Dimensions}
use Rattle.tables.specs.Tables.{Tables}
use Rattle.state.specs.declared.Run.{Run}
use Rattle.state.specs.State.{fresh, run_of, if_open}
use Rattle.solver.specs.Entries.{stepped_with, stepped}
use Rattle.indexed.specs.Continuing.{continued_with, continued}
use Rattle.weighted.specs.Weights.{weighted_rule}
use Rattle.late.specs.declared.Condition.{Condition}
use Rattle.late.specs.Replacement.{tables_after}
use Rattle.repeats.specs.Repeating.{repeated}
use Rattle.late_runs.specs.Host.{room_for}

-- a call of `step`, of `continue_indexed` with a number of steps, of either with the weighted choice, of `repeat` with a number of times,
-- the gate words, bytes and wires that the host lends, or of `replace`
pub data HostCall : Type 0 where
  StepPlain : HostCall
  StepWeighted : HostCall
  ContinuePlain : (times : ℕ) → HostCall
  ContinueWeighted : (times : ℕ) → HostCall
  RepeatCircuit : (times : ℕ) (gates bytes wires : List ℕ) → HostCall
  ReplaceRow : Condition → HostCall

-- its tables, its run, and the steps so far
pub record CountingHost : Type 0 where
  pub tables : Tables
  pub run : Run
  pub count : ℕ

-- a step of an open run is one, of a closed run none
abbrev pub step_count : Run → ℕ
step_count run = if_open run.standing 1 0

-- what each call leaves, refusals included: a call that says how many steps it took adds those
unfoldable pub act_counting : Dimensions → CountingHost → HostCall → CountingHost
unfolding stepped stepped_with continued continued_with repeated tables_after weighted_rule
act_counting d h StepPlain = record { tables = h.tables; run = (stepped d h.tables h.run).run; count = h.count + step_count h.run }
act_counting d h StepWeighted =
    record { tables = h.tables; run = (stepped_with weighted_rule d h.tables h.run).run; count = h.count + step_count h.run }
act_counting d h (ContinuePlain times) =
    let c = continued d h.tables times h.run in record { tables = h.tables; run = c.run; count = h.count + c.steps }
act_counting d h (ContinueWeighted times) =
    let c = continued_with weighted_rule d h.tables times h.run in
    record { tables = h.tables; run = c.run; count = h.count + c.steps }
act_counting d h (RepeatCircuit times gates bytes wires) =
    let r = repeated d h.tables times gates bytes wires h.run in
    record { tables = h.tables; run = r.run; count = h.count + r.repeats }
act_counting d h (ReplaceRow c) = record { tables = tables_after d h.tables h.run c; run = h.run; count = h.count }

-- one call after the other
unfoldable pub play_counting : Dimensions → CountingHost → List HostCall → CountingHost
unfolding act_counting
play_counting d h [] = h
play_counting d h (c ∷ more) = play_counting d (act_counting d h c) more

-- the host before its first call, with the fresh run
abbrev pub started_counting : Dimensions → Tables → CountingHost
started_counting d tables = record { tables = tables; run = run_of d.n fresh; count = 0 }

-- how many steps a call asks for: none where a repeat is refused for its buffers
abbrev pub call_asks : Dimensions → HostCall → ℕ
call_asks d StepPlain = 1
call_asks d StepWeighted = 1
call_asks d (ContinuePlain times) = times
call_asks d (ContinueWeighted times) = times
call_asks d (RepeatCircuit times gates bytes wires) = cond (room_for d gates bytes wires) times 0
call_asks d (ReplaceRow c) = 0

-- and all of them
unfoldable pub steps_asked : Dimensions → List HostCall → ℕ
steps_asked d [] = 0
steps_asked d (c ∷ more) = call_asks d c + steps_asked d more
