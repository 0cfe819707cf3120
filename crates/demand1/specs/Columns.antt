-- The functions that turn a table into columns and back.
-- Read: none, they have the form of `Runs`.
use Rattle.std.specs.Prelude.{ℕ, ◌*◌, List, [], ◌∷◌, length, take, drop}
use Rattle.refusals.specs.Checks.{outcome}
use Rattle.refusals.specs.Numbers.{code_of}
use Rattle.columns.specs.Columns.{column_checks, columns_after, row_checks, rows_after}
use Rattle.columns.specs.Planes.{square_count}
use Rattle.demand1.specs.Demand1.{Entry}
use Rattle.demand1.specs.Named.{named_rows}
use Rattle.demand1.specs.Examples.{array}

-- the words of the squares of a number of rows
abbrev pub plane_words : ℕ → ℕ
plane_words rows = 64 * square_count rows

-- forkhemit_columns
abbrev pub columns : Entry (ℕ × ℕ × List ℕ × List ℕ)
columns = record {
  call = λ (n, rows, table, planes). record {
    returned = code_of (outcome (column_checks n rows table (length planes)));
    judged = column_checks n rows table (length planes);
    lent = planes ∷ [];
    left = columns_after n rows table planes ∷ [];
  };
  in_bytes = λ a. a;
  numbers = 1 ∷ 2 ∷ 4 ∷ 3 ∷ [];
  named = λ (n, rows, table, planes). (n, rows, named_rows rows table, take (plane_words rows) planes);
  past = λ (n, rows, table, planes). drop (plane_words rows) planes ∷ [];
  examples =
      (2, 1, 3 ∷ 0 ∷ [], array 64) ∷ (33, 1, 3 ∷ 0 ∷ [], array 64) ∷ (2, 129, 3 ∷ 0 ∷ [], array 64) ∷ (2, 1, 3 ∷ 0 ∷ [], array 63)
      ∷ (2, 1, 3 ∷ 4 ∷ [], array 64) ∷ [];
}

-- forkhemit_rows
abbrev pub rows : Entry (ℕ × ℕ × List ℕ × List ℕ)
rows = record {
  call = λ (n, rows, planes, table). record {
    returned = code_of (outcome (row_checks n rows planes (length table)));
    judged = row_checks n rows planes (length table);
    lent = table ∷ [];
    left = rows_after n rows planes table ∷ [];
  };
  in_bytes = λ a. a;
  numbers = 1 ∷ 2 ∷ 4 ∷ 24 ∷ [];
  named = λ (n, rows, planes, table). (n, rows, take (plane_words rows) planes, named_rows rows table);
  past = λ (n, rows, planes, table). drop (2 * rows) table ∷ [];
  examples =
      (2, 0, [], array 2) ∷ (33, 0, [], array 2) ∷ (2, 129, [], array 2) ∷ (2, 1, [], array 2) ∷ (2, 1, array 64, array 2) ∷ [];
}
