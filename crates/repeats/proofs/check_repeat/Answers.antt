-- `check_repeat` meets its contract: its three calls judge the definition's three parts in their order.
use mathlib.Core.Path.{◌≡◌, sym, ◌∙◌}
use mathlib.Core.List.{List, ◌++◌}
use Rattle.std.specs.Prelude.{Ok}
use Rattle.refusals.specs.Checks.{Check, outcome}
use Rattle.refusals.proofs.Outcomes.{outcome-taken, outcome-refused, passed_on}
use Rattle.tables.specs.Tables.{words_in}
use Rattle.state.specs.WellFormed.{state_checks}
use Rattle.repeats.specs.Repeating.{generation_checks, wire_checks}
use Rattle.repeats.proofs.check_repeat.Goals as goal
use Rattle.repeats.proofs.check_repeat.Goals.{In_ok-check_words, Start}

-- ---- the definition's parts

abbrev first : Start → List Check
first s = generation_checks s.args.d (words_in s.args.tables) s.args.gates

abbrev second : Start → List Check
second s = wire_checks s.args.d s.args.bytes s.args.wires

abbrev third : Start → List Check
third s = state_checks s.args.d s.args.run

words-taken : (c : In_ok-check_words) → outcome (first (goal.at.In_ok-check_words c).Start) ≡ Ok tt
words-taken c = sym c.check_words.ensures.value ∙ c.in_ok-check_words.was

pub returns-in_err-check_words : goal.returns-in_err-check_words
returns-in_err-check_words c =
    rw (passed_on _ _ c.from_residual.ensures.1) (sym (outcome-refused (first (goal.at.returns-in_err-check_words c).Start)
    (second (goal.at.returns-in_err-check_words c).Start ++ third (goal.at.returns-in_err-check_words c).Start) _
    (sym c.check_words.ensures.value ∙ c.in_err-check_words.was)))

pub returns-in_err-check_room : goal.returns-in_err-check_room
returns-in_err-check_room c =
    rw (passed_on _ _ c.from_residual-in_err-check_room.ensures.1) (sym (outcome-taken (first (goal.at.returns-in_err-check_room c).Start)
    (second (goal.at.returns-in_err-check_room c).Start ++ third (goal.at.returns-in_err-check_room c).Start)
    (words-taken (goal.at.returns-in_err-check_room c).In_ok-check_words)
    ∙ outcome-refused (second (goal.at.returns-in_err-check_room c).Start) (third (goal.at.returns-in_err-check_room c).Start) _
    (sym c.check_room.ensures.value ∙ c.in_err-check_room.was)))

pub returns : goal.returns
returns c =
    c.check_state.ensures.value
    ∙ sym (outcome-taken (first (goal.at.returns c).Start) (second (goal.at.returns c).Start ++ third (goal.at.returns c).Start)
    (words-taken (goal.at.returns c).In_ok-check_words)
    ∙ outcome-taken (second (goal.at.returns c).Start) (third (goal.at.returns c).Start) (sym c.check_room.ensures.value ∙ c.in_ok-check_room.was))
