-- Demand 1 for columns: a table's planes are made of its first 2 × rows words, and its rows are read from the words of its squares alone.
use mathlib.Core.Path.{◌≡◌, refl, sym, ap, ◌∙◌}
use mathlib.Core.Bool.{Bool, not}
use mathlib.Core.List.{List, [], ◌∷◌, ◌++◌}
use Prim.Native.Nat.{ℕ, ◌+◌, ◌*◌, ◌/◌, ◌%◌, ◌^◌, ◌≤◌, ◌<◌}
use native.Mathlib.Omega.{arith}
use lib.Dec.{ltb}
use lib.ListN.{length, get_or, take, drop, take-append-drop}
use lib.Seq.{sets, take-take, get_or-take}
use Rattle.std.specs.Prelude.{Ok}
use Rattle.refusals.specs.Numbers.{code_of}
use Rattle.refusals.specs.Checks.{check, outcome, given}
use Rattle.refusals.specs.declared.Refusal.TheVariants.{PlaneBits}
use Rattle.words.specs.Sets.{any}
use Rattle.words.proofs.Last.{any_cong}
use Rattle.tables.specs.Acceptance.{all_below}
use Rattle.squares.specs.Squares.{plane_at, column}
use Rattle.columns.specs.Planes.{square_count, squares_from, planes_of, row_word, table_from}
use Rattle.squares.proofs.Tabulating.{length-tabulate, tabulate_cong}
use Rattle.columns.specs.Columns.{room, buffer_checks, column_checks, columns_after, stray, row_checks, rows_after}
use Rattle.columns.proofs.Round.{length_squares}
use Rattle.demand1.specs.Calls.{beside}
use Rattle.demand1.specs.Demand1.{Demand1}
use Rattle.demand1.specs.Named.{named_rows}
use Rattle.demand1.specs.Columns.{plane_words, columns, rows}
use Rattle.demand1.proofs.Shapes.{by-outcome, demand, as_given}
use Rattle.demand1.proofs.Fronts.{front-short, front-high, sets-front, front_kept}

-- ---- to columns

module _ (n count : ℕ) (table planes : List ℕ) where
  columns-checked : column_checks n count table (length planes) ≡ column_checks n count (named_rows count table) (length (take (plane_words count) planes))
  columns-checked = rw (← front-short (2 * count) table, ← front-short (plane_words count) planes, ← front-high n count table)

  planes_cut : planes_of count table ≡ planes_of count (named_rows count table)
  unfolding planes_of
  planes_cut = ap (λ (l : List ℕ). squares_from l 0 (square_count count)) (sym (take-take (2 * count) (2 * count) table (omega arith)))

  planes_length : length (planes_of count table) ≤ plane_words count
  unfolding planes_of
  planes_length = omega (arith, length_squares (take (2 * count) table) 0 (square_count count))

  columns_written : outcome (column_checks n count table (length planes)) ≡ Ok tt
      → columns_after n count table planes ≡ columns_after n count (named_rows count table) (take (plane_words count) planes) ++ drop (plane_words count) planes
  unfolding columns_after
  columns_written h =
      front_kept _ _ _ _ h (ap outcome columns-checked)
      (sets-front (planes_of count table) (plane_words count) planes planes_length
      ∙ ap (λ (l : List ℕ). sets (take (plane_words count) planes) 0 l ++ drop (plane_words count) planes) planes_cut)

pub of_columns : Demand1 columns
unfolding columns_after all_below beside
of_columns =
    demand columns (as_given columns (λ a. refl)) (record {
      judged = λ (n, count, table, planes).
          by-outcome (column_checks n count table (length planes)) (planes ∷ []) code_of
          (λ o. given o (sets planes 0 (planes_of count table)) (λ r. planes) ∷ []) refl (λ r. refl) (λ r. refl);
      order = λ a. refl;
      occurs = refl;
      split = λ (n, count, table, planes). ap (λ (l : List ℕ). l ∷ []) (sym (take-append-drop (plane_words count) planes));
      checked = λ (n, count, table, planes). ap outcome (columns-checked n count table planes);
      written = λ (n, count, table, planes) h. ap (λ (l : List ℕ). l ∷ []) (columns_written n count table planes h);
    })

-- ---- and back

module _ (n count : ℕ) (planes table : List ℕ) where
  abbrev cut : List ℕ
  cut = take (plane_words count) planes

  stray-cut : stray n count planes ≡ stray n count cut
  unfolding stray
  stray-cut =
      any_cong _ _ (plane_words count)
      (λ q h. ap (λ (w : ℕ). not (ltb w (2 ^ room n count q))) (sym (get_or-take (plane_words count) planes q 0 h)))

  rows-checked : row_checks n count planes (length table) ≡ row_checks n count cut (length (named_rows count table))
  rows-checked =
      ap (λ (b : Bool). buffer_checks n count (length table) (length planes) ++ check b PlaneBits ∷ []) stray-cut
      ∙ rw (← front-short (2 * count) table, ← front-short (plane_words count) planes)

  plane_cut : (q : ℕ) → q < 2 * count → plane_at planes (q / 64) (q % 2) ≡ plane_at cut (q / 64) (q % 2)
  plane_cut q h =
      tabulate_cong (λ i. get_or planes (64 * (q / 64) + 32 * (q % 2) + i) 0) (λ i. get_or cut (64 * (q / 64) + 32 * (q % 2) + i) 0) 0 0 32
      (λ i k. sym (get_or-take (plane_words count) planes (64 * (q / 64) + 32 * (q % 2) + (0 + i)) 0 (omega arith)))

  table-cut : table_from count planes ≡ table_from count cut
  unfolding table_from row_word
  table-cut =
      tabulate_cong (row_word planes) (row_word cut) 0 0 (2 * count)
      (λ q h. ap (λ (l : List ℕ). column l ((0 + q) % 64 / 2)) (plane_cut (0 + q) (omega arith)))

  rows_written : outcome (row_checks n count planes (length table)) ≡ Ok tt
      → rows_after n count planes table ≡ rows_after n count cut (named_rows count table) ++ drop (2 * count) table
  unfolding rows_after table_from
  rows_written h =
      front_kept _ _ _ _ h (ap outcome rows-checked)
      (sets-front (table_from count planes) (2 * count) table (omega (arith, length-tabulate (row_word planes) 0 (2 * count)))
      ∙ ap (λ (l : List ℕ). sets (take (2 * count) table) 0 l ++ drop (2 * count) table) table-cut)

pub of_rows : Demand1 rows
unfolding rows_after stray any beside
of_rows =
    demand rows (as_given rows (λ a. refl)) (record {
      judged = λ (n, count, planes, table).
          by-outcome (row_checks n count planes (length table)) (table ∷ []) code_of
          (λ o. given o (sets table 0 (table_from count planes)) (λ r. table) ∷ []) refl (λ r. refl) (λ r. refl);
      order = λ a. refl;
      occurs = refl;
      split = λ (n, count, planes, table). ap (λ (l : List ℕ). l ∷ []) (sym (take-append-drop (2 * count) table));
      checked = λ (n, count, planes, table). ap outcome (rows-checked n count planes table);
      written = λ (n, count, planes, table) h. ap (λ (l : List ℕ). l ∷ []) (rows_written n count planes table h);
    })
