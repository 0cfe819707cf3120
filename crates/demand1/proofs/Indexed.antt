-- Demand 1 for the functions with an index and with the weighted choice: as for the plain ones, by the outcome of their checks.
use mathlib.Core.Path.{◌≡◌, refl, sym, ap₂}
use mathlib.Core.List.{List, [], ◌∷◌, ◌++◌, map}
use Prim.Native.Nat.{ℕ}
use Rattle.std.specs.Prelude.{Result, Ok, Err}
use Rattle.refusals.specs.declared.Refusal.{Refusal}
use Rattle.refusals.specs.Numbers.{Outcome, code_of}
use Rattle.refusals.specs.Checks.{Check, given}
use mathlib.Core.Bool.{false}
use Rattle.words.specs.Sets.{bit, any, all, word_of}
use Rattle.words.specs.Sameness.{same}
use Rattle.words.proofs.Sameness.{same_self}
use Rattle.dimensions.specs.declared.Dimensions.{Dimensions}
use Rattle.tables.specs.Tables.{Tables}
use Rattle.tables.specs.Rows.{rows_of, satisfied, padding}
use Rattle.tables.specs.Acceptance.{all_below, table_checks}
use Rattle.state.specs.State.{state_of}
use Rattle.state.specs.WellFormed.{well_formed, state_checks}
use Rattle.scan.specs.Rules.{rule}
use Rattle.solver.specs.Step.{Ruling, always}
use Rattle.solver.specs.Entries.{stepped_with, run_with, solved_with}
use Rattle.occurrences.specs.Index.{at, index_of}
use Rattle.tally.specs.Tallies.{count_rows, unsatisfied_rows}
use Rattle.indexed.specs.Entries.{index_after, counted, counted_code, counted_numbers, indexed_checks, stepped_by, stepped_indexed}
use Rattle.indexed.specs.Entries.{SteppedIndexed}
use Rattle.indexed.specs.Continuing.{Continued, continued_by, not_continued, continued_with, continued, continued_code, continued_numbers}
use Rattle.weighted.specs.Weights.{weighted_rule}
use Rattle.stored.specs.Words.{run_in}
use Rattle.lent.specs.Lent.{numbers_or, stored_if}
use Rattle.demand1.specs.Calls.{Effect}
use Rattle.demand1.specs.Demand1.{Demand1}
use Rattle.demand1.specs.Named.{named_tables}
use Rattle.demand1.specs.Examples.{two, rows, fresh_words, array}
use Rattle.demand1.specs.Indexed.{index, unsatisfied, step_indexed, continue, step_weighted, solve_weighted, continue_weighted}
use Rattle.demand1.proofs.Shapes.{Judged, by-outcome, whole, by-sizes}
use Rattle.demand1.proofs.Fronts.{named-rows, named-short, named-high, named-checks}
use Rattle.demand1.proofs.Runs.{step-judged, step_same, solved-judged, solve-same}

pub of_index : Demand1 index
unfolding index_after all_below
of_index =
    whole index
    (by-sizes index (λ a. a.0) (λ (d, tables, lent) h i. (h i, tables, lent)) (λ a. refl) (λ a. refl) (λ a. refl))
    (λ (d, tables, lent).
    by-outcome (table_checks d tables) (lent ∷ []) code_of (λ o. given o (index_of (rows_of d tables)) (λ r. lent) ∷ []) refl (λ r. refl) (λ r. refl))
    (λ a. refl) refl (λ a. refl)
    (λ (d, tables, lent). rw (← named-short d tables, ← named-high d tables, ← named-rows d tables))

pub of_unsatisfied : Demand1 unsatisfied
unfolding counted run_in fresh_words all_below all bit well_formed
of_unsatisfied =
    whole unsatisfied
    (by-sizes unsatisfied (λ a. a.0) (λ (d, tables, run, number) h i. (h i, tables, run, number)) (λ a. refl) (λ a. refl) (λ a. refl))
    (λ (d, tables, run, number).
    let c : Outcome → Result ℕ Refusal = λ o. given o (Ok (unsatisfied_rows d.n (rows_of d tables) (run_in run).t (run_in run).f)) Err in
    by-outcome (table_checks d tables ++ state_checks d (run_in run)) (number ∷ []) (λ o. counted_code (c o))
    (λ o. numbers_or (counted_numbers (c o)) number ∷ [])
    refl (λ r. refl) (λ r. refl))
    (λ a. refl) refl (λ a. refl)
    (λ (d, tables, run, number). rw (← named-short d tables, ← named-high d tables, ← named-rows d tables))

-- nines are not the rows' sets
wrong_index : same (array 384) (index_of (rows_of two rows)) ≡ false
unfolding same index_of at bit word_of
wrong_index = refl

step_indexed_occurs : map (λ a. (step_indexed.call a).returned) step_indexed.examples ≡ 0 ∷ step_indexed.numbers
unfolding stepped_indexed run_in fresh_words all_below all any bit well_formed unsatisfied_rows count_rows satisfied padding
step_indexed_occurs = rw (same_self (index_of (rows_of two rows)), wrong_index)

pub of_step_indexed : Demand1 step_indexed
unfolding stepped_indexed
of_step_indexed =
    whole step_indexed
    (by-sizes step_indexed (λ a. a.0) (λ (d, tables, index, run, number) h i. (h i, tables, index, run, number)) (λ a. refl) (λ a. refl) (λ a. refl))
    (λ (d, tables, index, run, number).
    let s : Outcome → SteppedIndexed = λ o. stepped_by o d.n (rows_of d tables) (run_in run) number in
    by-outcome (table_checks d tables ++ indexed_checks d.n (rows_of d tables) index (run_in run) number) (run ∷ (number ∷ []) ∷ [])
    (λ o. code_of (s o).outcome)
    (λ o. stored_if (s o).outcome (s o).run run ∷ ((s o).number ∷ []) ∷ []) refl (λ r. refl) (λ r. refl))
    (λ a. refl) step_indexed_occurs (λ a. refl)
    (λ (d, tables, index, run, number). rw (← named-short d tables, ← named-high d tables, ← named-rows d tables))

-- ---- runs continued

module _ (ruling : Ruling) (d : Dimensions) (tables : Tables) (times : ℕ) (run lent : List ℕ) where
  abbrev continue_call : List Check → Continued → Effect
  continue_call cs c = record {
    returned = continued_code c;
    judged = cs;
    lent = run ∷ lent ∷ [];
    left = stored_if c.outcome c.run run ∷ numbers_or (continued_numbers c) lent ∷ [];
  }

  continue-judged : Judged (continue_call (table_checks d tables ++ state_checks d (run_in run)) (continued_with ruling d tables times (run_in run)))
  unfolding continued_with
  continue-judged =
      let c : Outcome → Continued =
      λ o. given o (continued_by d.n (run_with ruling d.n (always (rows_of d tables)) times (state_of (run_in run)))) (not_continued (run_in run)) in
      by-outcome (table_checks d tables ++ state_checks d (run_in run)) (run ∷ lent ∷ []) (λ o. continued_code (c o))
      (λ o. stored_if (c o).outcome (c o).run run ∷ numbers_or (continued_numbers (c o)) lent ∷ []) refl (λ r. refl) (λ r. refl)

  continued-named : continued_with ruling d tables times (run_in run) ≡ continued_with ruling d (named_tables d tables) times (run_in run)
  unfolding continued_with
  continued-named = rw (← named-short d tables, ← named-high d tables, ← named-rows d tables)

  continue-same : continue_call (table_checks d tables ++ state_checks d (run_in run)) (continued_with ruling d tables times (run_in run))
      ≡ continue_call (table_checks d (named_tables d tables) ++ state_checks d (run_in run))
      (continued_with ruling d (named_tables d tables) times (run_in run))
  continue-same = ap₂ (λ (cs : List Check) (c : Continued). continue_call (cs ++ state_checks d (run_in run)) c) (sym (named-checks d tables)) continued-named

pub of_continue : Demand1 continue
unfolding continued run_in fresh_words all_below all bit well_formed
of_continue =
    whole continue
    (by-sizes continue (λ a. a.0) (λ (d, tables, times, run, lent) h i. (h i, tables, times, run, lent)) (λ a. refl) (λ a. refl) (λ a. refl))
    (λ (d, tables, times, run, lent). continue-judged rule d tables times run lent) (λ a. refl) refl (λ a. refl)
    (λ (d, tables, times, run, lent). continue-same rule d tables times run lent)

-- ---- the weighted choice

pub of_step_weighted : Demand1 step_weighted
unfolding stepped_with run_in fresh_words all_below all bit well_formed
of_step_weighted =
    whole step_weighted
    (by-sizes step_weighted (λ a. a.0) (λ (d, tables, run) h i. (h i, tables, run)) (λ a. refl) (λ a. refl) (λ a. refl))
    (λ (d, tables, run). step-judged weighted_rule d tables run) (λ a. refl) refl (λ a. refl)
    (λ (d, tables, run). step_same weighted_rule d tables run)

pub of_solve_weighted : Demand1 solve_weighted
unfolding all_below solved_with
of_solve_weighted =
    whole solve_weighted
    (by-sizes solve_weighted (λ a. a.0) (λ (d, tables, budget, answer) h i. (h i, tables, budget, answer)) (λ a. refl) (λ a. refl) (λ a. refl))
    (λ (d, tables, budget, answer). solved-judged weighted_rule d tables budget answer) (λ a. refl) refl (λ a. refl)
    (λ (d, tables, budget, answer). solve-same weighted_rule d tables budget answer)

pub of_continue_weighted : Demand1 continue_weighted
unfolding continued_with run_in fresh_words all_below all bit well_formed
of_continue_weighted =
    whole continue_weighted
    (by-sizes continue_weighted (λ a. a.0) (λ (d, tables, times, run, lent) h i. (h i, tables, times, run, lent)) (λ a. refl) (λ a. refl) (λ a. refl))
    (λ (d, tables, times, run, lent). continue-judged weighted_rule d tables times run lent) (λ a. refl) refl (λ a. refl)
    (λ (d, tables, times, run, lent). continue-same weighted_rule d tables times run lent)
