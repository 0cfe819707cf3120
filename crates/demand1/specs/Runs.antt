-- The functions on tables and runs.
-- Read: the first entry; all others have its form.
-- Ask: Is `call` the contract of that name, line by line? Are `judged` the checks in the order of documents 01 and 02?
use Rattle.std.specs.Prelude.{ℕ, List, [], ◌∷◌, ◌++◌, map, length, take, drop}
use Rattle.refusals.specs.Checks.{outcome}
use Rattle.refusals.specs.Numbers.{code_of}
use Rattle.dimensions.specs.declared.Dimensions.{Dimensions}
use Rattle.dimensions.specs.Sizes.{size_checks, row_count}
use Rattle.tables.specs.Tables.{Tables}
use Rattle.tables.specs.Acceptance.{table_checks}
use Rattle.state.specs.State.{fresh, run_of}
use Rattle.state.specs.WellFormed.{state_checks}
use Rattle.verdicts.specs.Verdicts.{model_checks, model_of, model_code, model_numbers}
use Rattle.solver.specs.Entries.{solved, solved_code, solved_numbers}
use Rattle.free_counts.specs.Counts.{count_checks, counts_after}
use Rattle.codes.specs.Codes.{as_byte, variable_checks}
use Rattle.stored.specs.Words.{run_in}
use Rattle.lent.specs.Lent.{numbers_or, stored_if}
use Rattle.host_circuits.specs.Circuits.{sizes_given}
use Rattle.host_runs.specs.Rows.{judged_row, judged_numbers}
use Rattle.host_runs.specs.Runs.{step_in, step_stored}
use Rattle.demand1.specs.Demand1.{Entry}
use Rattle.demand1.specs.Named.{as_bytes, named_tables}
use Rattle.demand1.specs.Examples.{two, rows, bad_sizes, bad_tables, fresh_words, satisfied_words, array}

-- forkhemit_sizes
abbrev pub sizes : Entry (Dimensions × List ℕ)
sizes = record {
  call = λ (d, lent). record {
    returned = code_of (outcome (size_checks d));
    judged = size_checks d;
    lent = lent ∷ [];
    left = sizes_given d lent ∷ [];
  };
  in_bytes = λ (d, lent). (as_bytes d, lent);
  numbers = 1 ∷ 2 ∷ [];
  named = λ a. a;
  past = λ a. [];
  examples = (two, array 4) ∷ map (λ d. (d, array 4)) bad_sizes;
}

-- forkhemit_accept
abbrev pub accept : Entry (Dimensions × Tables)
accept = record {
  call = λ (d, tables). record {
    returned = code_of (outcome (table_checks d tables));
    judged = table_checks d tables;
    lent = [];
    left = [];
  };
  in_bytes = λ (d, tables). (as_bytes d, tables);
  numbers = 1 ∷ 2 ∷ 4 ∷ 3 ∷ [];
  named = λ (d, tables). (d, named_tables d tables);
  past = λ a. [];
  examples = (two, rows) ∷ bad_tables;
}

-- forkhemit_judge: positive, negative, T, F; never refused
abbrev pub judge : Entry (ℕ × ℕ × ℕ × ℕ × List ℕ)
judge = record {
  call = λ (positive, negative, t, f, lent). record {
    returned = 0;
    judged = [];
    lent = lent ∷ [];
    left = judged_numbers (judged_row positive negative t f) ∷ [];
  };
  in_bytes = λ a. a;
  numbers = [];
  named = λ a. a;
  past = λ a. [];
  examples = (3, 0, 1, 0, array 4) ∷ [];
}

-- forkhemit_fresh
abbrev pub fresh_run : Entry (ℕ × List ℕ)
fresh_run = record {
  call = λ (n, run). record {
    returned = code_of (outcome (variable_checks n));
    judged = variable_checks n;
    lent = run ∷ [];
    left = stored_if (outcome (variable_checks n)) (run_of n fresh) run ∷ [];
  };
  in_bytes = λ (n, run). (as_byte n, run);
  numbers = 1 ∷ [];
  named = λ a. a;
  past = λ a. [];
  examples = (2, array 101) ∷ (33, array 101) ∷ [];
}

-- forkhemit_step
abbrev pub step_plain : Entry (Dimensions × Tables × List ℕ)
step_plain = record {
  call = λ (d, tables, run). record {
    returned = code_of (step_in d tables run).outcome;
    judged = table_checks d tables ++ state_checks d (run_in run);
    lent = run ∷ [];
    left = step_stored (step_in d tables run) run ∷ [];
  };
  in_bytes = λ (d, tables, run). (as_bytes d, tables, run);
  numbers = 1 ∷ 2 ∷ 4 ∷ 3 ∷ 12 ∷ 13 ∷ [];
  named = λ (d, tables, run). (d, named_tables d tables, run);
  past = λ a. [];
  examples =
      (two, rows, fresh_words 2) ∷ map (λ (d, tables). (d, tables, fresh_words 2)) bad_tables
      ++ (two, rows, fresh_words 33) ∷ (two, rows, fresh_words 3) ∷ [];
}

-- forkhemit_solve; forkhemit_solve_indexed has the same contract
abbrev pub solve : Entry (Dimensions × Tables × ℕ × List ℕ)
solve = record {
  call = λ (d, tables, budget, answer). record {
    returned = solved_code (solved d tables budget);
    judged = table_checks d tables;
    lent = answer ∷ [];
    left = numbers_or (solved_numbers (solved d tables budget)) answer ∷ [];
  };
  in_bytes = λ (d, tables, budget, answer). (as_bytes d, tables, budget, answer);
  numbers = 1 ∷ 2 ∷ 4 ∷ 3 ∷ [];
  named = λ (d, tables, budget, answer). (d, named_tables d tables, budget, answer);
  past = λ a. [];
  examples = (two, rows, 0, array 3) ∷ map (λ (d, tables). (d, tables, 0, array 3)) bad_tables;
}

-- forkhemit_model
abbrev pub model : Entry (List ℕ × List ℕ)
model = record {
  call = λ (run, lent). record {
    returned = model_code (model_of (run_in run));
    judged = model_checks (run_in run);
    lent = lent ∷ [];
    left = numbers_or (model_numbers (model_of (run_in run))) lent ∷ [];
  };
  in_bytes = λ a. a;
  numbers = 12 ∷ 14 ∷ [];
  named = λ a. a;
  past = λ a. [];
  examples = (satisfied_words, array 1) ∷ (fresh_words 33, array 1) ∷ (fresh_words 2, array 1) ∷ [];
}

-- forkhemit_count_free: a byte for each row
abbrev pub count_free : Entry (Dimensions × Tables × List ℕ × List ℕ)
count_free = record {
  call = λ (d, tables, run, counts). record {
    returned = code_of (outcome (count_checks d tables (run_in run) (length counts)));
    judged = count_checks d tables (run_in run) (length counts);
    lent = counts ∷ [];
    left = counts_after d tables (run_in run) counts ∷ [];
  };
  in_bytes = λ (d, tables, run, counts). (as_bytes d, tables, run, counts);
  numbers = 1 ∷ 2 ∷ 4 ∷ 3 ∷ 10 ∷ 12 ∷ 13 ∷ [];
  named = λ (d, tables, run, counts). (d, named_tables d tables, run, take (row_count d) counts);
  past = λ (d, tables, run, counts). drop (row_count d) counts ∷ [];
  examples =
      (two, rows, fresh_words 2, array 3) ∷ map (λ (d, tables). (d, tables, fresh_words 2, array 3)) bad_tables
      ++ (two, rows, fresh_words 2, array 2) ∷ (two, rows, fresh_words 33, array 3) ∷ (two, rows, fresh_words 3, array 3) ∷ [];
}
