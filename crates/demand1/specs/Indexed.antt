-- The functions on runs with an index, and those with the weighted choice.
-- Read: none, they have the form of `Runs`.
use Rattle.std.specs.Prelude.{ℕ, List, [], ◌∷◌, ◌++◌, map}
use Rattle.refusals.specs.Checks.{outcome}
use Rattle.refusals.specs.Numbers.{code_of}
use Rattle.dimensions.specs.declared.Dimensions.{Dimensions}
use Rattle.tables.specs.Tables.{Tables}
use Rattle.tables.specs.Rows.{rows_of}
use Rattle.tables.specs.Acceptance.{table_checks}
use Rattle.state.specs.WellFormed.{state_checks}
use Rattle.solver.specs.Entries.{stepped_with, solved_with, solved_code, solved_numbers}
use Rattle.occurrences.specs.Index.{index_of}
use Rattle.indexed.specs.Entries.{index_after, counted, counted_code, counted_numbers, indexed_checks}
use Rattle.indexed.specs.Continuing.{Continued, continued_code, continued_numbers, continued_with}
use Rattle.weighted.specs.Weights.{weighted_rule}
use Rattle.stored.specs.Words.{run_in}
use Rattle.lent.specs.Lent.{numbers_or, stored_if}
use Rattle.host_runs.specs.Runs.{step_stored}
use Rattle.host_indexed.specs.Steps.{indexed_step_in, continue_in}
use Rattle.demand1.specs.Calls.{Effect}
use Rattle.demand1.specs.Demand1.{Entry}
use Rattle.demand1.specs.Named.{as_bytes, named_tables}
use Rattle.demand1.specs.Examples.{two, rows, bad_tables, fresh_words, array}

-- forkhemit_index
abbrev pub index : Entry (Dimensions × Tables × List ℕ)
index = record {
  call = λ (d, tables, lent). record {
    returned = code_of (outcome (table_checks d tables));
    judged = table_checks d tables;
    lent = lent ∷ [];
    left = index_after d tables lent ∷ [];
  };
  in_bytes = λ (d, tables, lent). (as_bytes d, tables, lent);
  numbers = 1 ∷ 2 ∷ 4 ∷ 3 ∷ [];
  named = λ (d, tables, lent). (d, named_tables d tables, lent);
  past = λ a. [];
  examples = (two, rows, array 384) ∷ map (λ (d, tables). (d, tables, array 384)) bad_tables;
}

-- forkhemit_unsatisfied
abbrev pub unsatisfied : Entry (Dimensions × Tables × List ℕ × List ℕ)
unsatisfied = record {
  call = λ (d, tables, run, number). record {
    returned = counted_code (counted d tables (run_in run));
    judged = table_checks d tables ++ state_checks d (run_in run);
    lent = number ∷ [];
    left = numbers_or (counted_numbers (counted d tables (run_in run))) number ∷ [];
  };
  in_bytes = λ (d, tables, run, number). (as_bytes d, tables, run, number);
  numbers = 1 ∷ 2 ∷ 4 ∷ 3 ∷ 12 ∷ 13 ∷ [];
  named = λ (d, tables, run, number). (d, named_tables d tables, run, number);
  past = λ a. [];
  examples =
      (two, rows, fresh_words 2, array 1) ∷ map (λ (d, tables). (d, tables, fresh_words 2, array 1)) bad_tables
      ++ (two, rows, fresh_words 33, array 1) ∷ (two, rows, fresh_words 3, array 1) ∷ [];
}

-- forkhemit_step_indexed: the index, the run and the one number of its array; 12 for the run, for the index, for the number
abbrev pub step_indexed : Entry (Dimensions × Tables × List ℕ × List ℕ × ℕ)
step_indexed = record {
  call = λ (d, tables, index, run, number).
      let s = indexed_step_in d tables index run (number ∷ []) in
      record {
        returned = code_of s.outcome;
        judged = table_checks d tables ++ indexed_checks d.n (rows_of d tables) index (run_in run) number;
        lent = run ∷ (number ∷ []) ∷ [];
        left = stored_if s.outcome s.run run ∷ (s.number ∷ []) ∷ [];
      };
  in_bytes = λ (d, tables, index, run, number). (as_bytes d, tables, index, run, number);
  numbers = 1 ∷ 2 ∷ 4 ∷ 3 ∷ 12 ∷ 12 ∷ 12 ∷ 13 ∷ [];
  named = λ (d, tables, index, run, number). (d, named_tables d tables, index, run, number);
  past = λ a. [];
  examples =
      let right = index_of (rows_of two rows) in
      (two, rows, right, fresh_words 2, 2) ∷ map (λ (d, tables). (d, tables, right, fresh_words 2, 2)) bad_tables
      ++ (two, rows, right, fresh_words 33, 2) ∷ (two, rows, array 384, fresh_words 2, 2) ∷ (two, rows, right, fresh_words 2, 3)
      ∷ (two, rows, right, fresh_words 3, 2) ∷ [];
}

-- what continuing a run gives: the run, and how many steps it took with whether it is closed
abbrev pub continue_effect : Dimensions → Tables → List ℕ → List ℕ → Continued → Effect
continue_effect d tables run lent c = record {
  returned = continued_code c;
  judged = table_checks d tables ++ state_checks d (run_in run);
  lent = run ∷ lent ∷ [];
  left = stored_if c.outcome c.run run ∷ numbers_or (continued_numbers c) lent ∷ [];
}

-- forkhemit_continue: at most `times` steps
abbrev pub continue : Entry (Dimensions × Tables × ℕ × List ℕ × List ℕ)
continue = record {
  call = λ (d, tables, times, run, lent).
      continue_effect d tables run lent (continue_in d tables times run);
  in_bytes = λ (d, tables, times, run, lent). (as_bytes d, tables, times, run, lent);
  numbers = 1 ∷ 2 ∷ 4 ∷ 3 ∷ 12 ∷ 13 ∷ [];
  named = λ (d, tables, times, run, lent). (d, named_tables d tables, times, run, lent);
  past = λ a. [];
  examples =
      (two, rows, 1, fresh_words 2, array 2) ∷ map (λ (d, tables). (d, tables, 1, fresh_words 2, array 2)) bad_tables
      ++ (two, rows, 1, fresh_words 33, array 2) ∷ (two, rows, 1, fresh_words 3, array 2) ∷ [];
}

-- ---- the weighted choice

-- forkhemit_step_weighted
abbrev pub step_weighted : Entry (Dimensions × Tables × List ℕ)
step_weighted = record {
  call = λ (d, tables, run).
      let s = stepped_with weighted_rule d tables (run_in run) in
      record {
        returned = code_of s.outcome;
        judged = table_checks d tables ++ state_checks d (run_in run);
        lent = run ∷ [];
        left = step_stored s run ∷ [];
      };
  in_bytes = λ (d, tables, run). (as_bytes d, tables, run);
  numbers = 1 ∷ 2 ∷ 4 ∷ 3 ∷ 12 ∷ 13 ∷ [];
  named = λ (d, tables, run). (d, named_tables d tables, run);
  past = λ a. [];
  examples =
      (two, rows, fresh_words 2) ∷ map (λ (d, tables). (d, tables, fresh_words 2)) bad_tables
      ++ (two, rows, fresh_words 33) ∷ (two, rows, fresh_words 3) ∷ [];
}

-- forkhemit_solve_weighted
abbrev pub solve_weighted : Entry (Dimensions × Tables × ℕ × List ℕ)
solve_weighted = record {
  call = λ (d, tables, budget, answer).
      let s = solved_with weighted_rule d tables budget in
      record {
        returned = solved_code s;
        judged = table_checks d tables;
        lent = answer ∷ [];
        left = numbers_or (solved_numbers s) answer ∷ [];
      };
  in_bytes = λ (d, tables, budget, answer). (as_bytes d, tables, budget, answer);
  numbers = 1 ∷ 2 ∷ 4 ∷ 3 ∷ [];
  named = λ (d, tables, budget, answer). (d, named_tables d tables, budget, answer);
  past = λ a. [];
  examples = (two, rows, 0, array 3) ∷ map (λ (d, tables). (d, tables, 0, array 3)) bad_tables;
}

-- forkhemit_continue_weighted
abbrev pub continue_weighted : Entry (Dimensions × Tables × ℕ × List ℕ × List ℕ)
continue_weighted = record {
  call = λ (d, tables, times, run, lent).
      continue_effect d tables run lent (continued_with weighted_rule d tables times (run_in run));
  in_bytes = λ (d, tables, times, run, lent). (as_bytes d, tables, times, run, lent);
  numbers = 1 ∷ 2 ∷ 4 ∷ 3 ∷ 12 ∷ 13 ∷ [];
  named = λ (d, tables, times, run, lent). (d, named_tables d tables, times, run, lent);
  past = λ a. [];
  examples =
      (two, rows, 1, fresh_words 2, array 2) ∷ map (λ (d, tables). (d, tables, 1, fresh_words 2, array 2)) bad_tables
      ++ (two, rows, 1, fresh_words 33, array 2) ∷ (two, rows, 1, fresh_words 3, array 2) ∷ [];
}
