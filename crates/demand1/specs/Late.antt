-- The functions for late conditions, and the step that tells its rule.
-- Read: none, they have the form of `Runs`.
use Rattle.std.specs.Prelude.{ℕ, ◌*◌, List, [], ◌∷◌, ◌++◌, map, drop}
use Rattle.refusals.specs.Checks.{outcome}
use Rattle.refusals.specs.Numbers.{code_of}
use Rattle.dimensions.specs.declared.Dimensions.{Dimensions}
use Rattle.tables.specs.Tables.{Tables, all_tables}
use Rattle.tables.specs.Rows.{rows_of}
use Rattle.tables.specs.Acceptance.{table_checks}
use Rattle.state.specs.WellFormed.{state_checks}
use Rattle.occurrences.specs.Index.{index_of}
use Rattle.late.specs.declared.Condition.{Condition}
use Rattle.late.specs.Replacement.{late_checks, tables_after}
use Rattle.late_indexed.specs.Replacement.{replace_checks, tables_then, index_then, number_then}
use Rattle.stored.specs.Words.{run_in}
use Rattle.host_late.specs.Conditions.{condition_of}
use Rattle.host_explained.specs.Explanations.{explain_in, run_after, numbers_after}
use Rattle.demand1.specs.Demand1.{Entry}
use Rattle.demand1.specs.Named.{as_bytes, named_tables}
use Rattle.demand1.specs.Examples.{two, rows, bad_tables, fresh_words, satisfied_words, array}

-- the two stations' words, which a late condition changes
abbrev pub stations : Tables → List (List ℕ)
stations tables = tables.left ∷ tables.right ∷ []

-- what follows their rows
abbrev pub past_rows : Dimensions → Tables → List (List ℕ)
past_rows d tables = drop (2 * d.left) tables.left ∷ drop (2 * d.right) tables.right ∷ []

-- the left row is padding
abbrev pub padded : Tables
padded = all_tables (1 ∷ 1 ∷ []) (0 ∷ 1 ∷ []) (1 ∷ 1 ∷ [])

-- the left station's first row becomes these words
abbrev pub first_left : ℕ → Condition
first_left positive = condition_of 0 1 positive 0

-- forkhemit_replace: the tables, the run, and station, row and words as a condition
abbrev pub replace : Entry (Dimensions × Tables × List ℕ × Condition)
replace = record {
  call = λ (d, tables, run, c). record {
    returned = code_of (outcome (late_checks d tables (run_in run) c));
    judged = late_checks d tables (run_in run) c;
    lent = stations tables;
    left = stations (tables_after d tables (run_in run) c);
  };
  in_bytes = λ (d, tables, run, c). (as_bytes d, tables, run, c);
  numbers = 1 ∷ 2 ∷ 4 ∷ 3 ∷ 12 ∷ 13 ∷ 15 ∷ 16 ∷ 3 ∷ [];
  named = λ (d, tables, run, c). (d, named_tables d tables, run, c);
  past = λ (d, tables, run, c). past_rows d tables;
  examples =
      (two, padded, fresh_words 2, first_left 2) ∷ map (λ (d, tables). (d, tables, fresh_words 2, first_left 2)) bad_tables
      ++ (two, padded, fresh_words 33, first_left 2) ∷ (two, padded, fresh_words 3, first_left 2) ∷ (two, rows, fresh_words 2, first_left 2)
      ∷ (two, padded, satisfied_words, first_left 2) ∷ (two, padded, fresh_words 2, first_left 4) ∷ [];
}

-- forkhemit_replace_indexed: with an index and the one number of its array
abbrev pub replace_indexed : Entry (Dimensions × Tables × List ℕ × Condition × List ℕ × ℕ)
replace_indexed = record {
  call = λ (d, tables, run, c, index, number). record {
    returned = code_of (outcome (replace_checks d tables index (run_in run) number c));
    judged = replace_checks d tables index (run_in run) number c;
    lent = stations tables ++ index ∷ (number ∷ []) ∷ [];
    left =
        stations (tables_then d tables index (run_in run) number c)
        ++ index_then d tables index (run_in run) number c ∷ (number_then d tables index (run_in run) number c ∷ []) ∷ [];
  };
  in_bytes = λ (d, tables, run, c, index, number). (as_bytes d, tables, run, c, index, number);
  numbers = 1 ∷ 2 ∷ 4 ∷ 3 ∷ 12 ∷ 12 ∷ 12 ∷ 13 ∷ 15 ∷ 16 ∷ 3 ∷ [];
  named = λ (d, tables, run, c, index, number). (d, named_tables d tables, run, c, index, number);
  past = λ (d, tables, run, c, index, number). past_rows d tables;
  examples =
      let right = index_of (rows_of two padded) in
      let plain = index_of (rows_of two rows) in
      (two, padded, fresh_words 2, first_left 2, right, 1)
      ∷ map (λ (d, tables). (d, tables, fresh_words 2, first_left 2, right, 1)) bad_tables
      ++ (two, padded, fresh_words 33, first_left 2, right, 1) ∷ (two, padded, fresh_words 2, first_left 2, array 384, 1)
      ∷ (two, padded, fresh_words 2, first_left 2, right, 3) ∷ (two, padded, fresh_words 3, first_left 2, right, 1)
      ∷ (two, rows, fresh_words 2, first_left 2, plain, 2) ∷ (two, padded, satisfied_words, first_left 2, right, 0)
      ∷ (two, padded, fresh_words 2, first_left 4, right, 1) ∷ [];
}

-- forkhemit_step_explained
abbrev pub step_explained : Entry (Dimensions × Tables × List ℕ × List ℕ)
step_explained = record {
  call = λ (d, tables, run, explanation).
      let e = explain_in d tables run in
      record {
        returned = code_of e.outcome;
        judged = table_checks d tables ++ state_checks d (run_in run);
        lent = run ∷ explanation ∷ [];
        left = run_after e run ∷ numbers_after e explanation ∷ [];
      };
  in_bytes = λ (d, tables, run, explanation). (as_bytes d, tables, run, explanation);
  numbers = 1 ∷ 2 ∷ 4 ∷ 3 ∷ 12 ∷ 13 ∷ [];
  named = λ (d, tables, run, explanation). (d, named_tables d tables, run, explanation);
  past = λ a. [];
  examples =
      (two, rows, fresh_words 2, array 4) ∷ map (λ (d, tables). (d, tables, fresh_words 2, array 4)) bad_tables
      ++ (two, rows, fresh_words 33, array 4) ∷ (two, rows, fresh_words 3, array 4) ∷ [];
}
