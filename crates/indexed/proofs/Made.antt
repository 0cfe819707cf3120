-- The words and the index of accepted tables: exactly their rows, each word below 2 ^ n.
use mathlib.Core.Path.{◌≡◌, sym, ap, ap₂, ◌∙◌}
use mathlib.Core.List.{List}
use Prim.Native.Nat.{ℕ, min, ◌^◌, ◌<◌}
use native.Mathlib.Omega.{arith}
use Rattle.std.specs.Prelude.{Ok}
use Rattle.refusals.specs.Checks.{outcome}
use Rattle.words.specs.declared.Row.{Row}
use Rattle.dimensions.specs.declared.Dimensions.{Dimensions}
use Rattle.dimensions.specs.Sizes.{row_count}
use Rattle.tables.specs.Tables.{Tables}
use Rattle.tables.specs.Rows.{rows_from, rows_of}
use Rattle.tables.specs.Acceptance.{low_row, table_checks}
use Rattle.tables.proofs.Accepted.{accepted}
use Rattle.scan.specs.Rules.{all_rows}
use Rattle.truth.proofs.LowRows.{accepted-low}
use Rattle.occurrences.specs.Index.{index_of}
use Rattle.occurrences.specs.RowWords.{gathered}
use Rattle.occurrences.proofs.Gathering.{gathered-rows, gathered-index}
use Rattle.tally.specs.declared.Tally.{Tally}
use Rattle.tally.specs.Tallies.{unsatisfied_rows}
use Rattle.tally.specs.RowsSeen.{surveyed}
use Rattle.indexed.specs.Tallied.{Indexed}
use Rattle.indexed.proofs.Numbers.{tally_number}
use Rattle.indexed.proofs.TallyAfter.{survey_exact}

module _ (d : Dimensions) (tables : Tables) where
  -- as code makes them
  pub gathered-made : outcome (table_checks d tables) ≡ Ok tt → (words : List ℕ) → words ≡ gathered d tables → (m : ℕ) → m ≡ row_count d
      → (index : List ℕ) → index ≡ index_of (rows_from words 0 (min m 384))
      → (rows_from words 0 (row_count d) ≡ rows_of d tables) × (index ≡ index_of (rows_of d tables))
  gathered-made ok words e m many index q = (
    ap (λ (w : List ℕ). rows_from w 0 (row_count d)) e ∙ gathered-rows d tables ok,
    q ∙ ap₂ (λ (w : List ℕ) (k : ℕ). index_of (rows_from w 0 (min k 384))) e many ∙ gathered-index d tables ok,
  )

  module _ (words : List ℕ) (rows_are : rows_from words 0 (row_count d) ≡ rows_of d tables) (m : ℕ) (many : m ≡ row_count d) where
    -- the first m rows of the gathered words are the tables'
    pub made-rows : rows_from words 0 m ≡ rows_of d tables
    made-rows = ap (λ (k : ℕ). rows_from words 0 k) many ∙ rows_are

    -- the gathered words and their index are what a run with an index asks for
    pub made : outcome (table_checks d tables) ≡ Ok tt → (index : List ℕ) → index ≡ index_of (rows_of d tables) → Indexed d.n words m index
    made ok index q =
        let a = (accepted d tables ok).size in
        record {
          least = a.n_least;
          most = a.n-most;
          few = omega (arith, many, a.rows-most);
          low = ap (λ (rs : List Row). all_rows (low_row d.n) rs) made-rows ∙ accepted-low d tables ok;
          indexed = q ∙ ap index_of (sym made-rows);
        }

    -- the number that a survey gives
    pub counted_is : (ok : outcome (table_checks d tables) ≡ Ok tt) (index : List ℕ) → index ≡ index_of (rows_of d tables) → (t f : ℕ) → t < 2 ^ 32 → f < 2 ^ 32
        → (tally : Tally) → tally ≡ surveyed words index m t f → tally.number ≡ unsatisfied_rows d.n (rows_of d tables) t f
    counted_is ok index q t f ht hf tally e =
        let x = made ok index q in
        ap (λ (y : Tally). y.number) (e ∙ survey_exact d.n words m index x t f ht hf)
        ∙ tally_number d.n x.most t f (rows_from words 0 m) x.low
        ∙ ap (λ (rs : List Row). unsatisfied_rows d.n rs t f) made-rows
