-- What the checks of counting lead to, each by its condition. From the order of the checks.
use mathlib.Core.Path.{◌≡◌, sym, ◌∙◌}
use mathlib.Core.List.{List, ◌∷◌}
use Prim.Native.Nat.{ℕ, ◌≤◌, ◌<◌}
use lib.Dec.{ltb}
use lib.ListN.{length}
use lib.Seq.{sets}
use borrow.Author.Tests.{lt-ltb, le-ltb, ltb-false}
use Rattle.std.specs.Prelude.{Ok, Err}
use Rattle.refusals.specs.Checks.{Check, check, outcome}
use Rattle.refusals.specs.declared.Refusal.{Refusal}
use Rattle.refusals.specs.declared.Refusal.TheVariants.{Wires}
use Rattle.refusals.proofs.Outcomes.{outcome-taken, outcome-refused, outcome_parts, check_passed}
use Rattle.dimensions.specs.declared.Dimensions.{Dimensions}
use Rattle.dimensions.specs.Sizes.{row_count}
use Rattle.tables.specs.Tables.{Tables}
use Rattle.tables.specs.Rows.{rows_of}
use Rattle.tables.specs.Acceptance.{table_checks}
use Rattle.tables.proofs.Accepted.{Accepted, accepted}
use Rattle.state.specs.declared.Run.{Run}
use Rattle.state.specs.WellFormed.{state_checks}
use Rattle.free_counts.specs.Counts.{free_counts_of, count_checks, counts_after}

module _ (d : Dimensions) (tables : Tables) (run : Run) (room : ℕ) where
  abbrev later : List Check
  later = check (ltb room (row_count d)) Wires ∷ state_checks d run

  pub refuse_tables : (r : Refusal) → outcome (table_checks d tables) ≡ Err r → Err r ≡ outcome (count_checks d tables run room)
  refuse_tables r e = sym (outcome-refused (table_checks d tables) later r e)

  module _ (e : outcome (table_checks d tables) ≡ Ok tt) where
    rest : outcome (count_checks d tables run room) ≡ outcome later
    rest = outcome-taken (table_checks d tables) later e

    pub refuse_room : room < row_count d → Err Wires ≡ outcome (count_checks d tables run room)
    refuse_room h = sym (rest ∙ rw (lt-ltb room (row_count d) h))

    pub state_decides : row_count d ≤ room → outcome (state_checks d run) ≡ outcome (count_checks d tables run room)
    state_decides h = sym (rest ∙ rw (le-ltb room (row_count d) h))

  -- where they are passed, the tables are accepted and there is a byte for each row
  pub passed : outcome (count_checks d tables run room) ≡ Ok tt → Accepted d tables × (row_count d ≤ room)
  passed e =
      let parts = outcome_parts (table_checks d tables) later e in
      (accepted d tables parts.0, ltb-false room (row_count d) (check_passed (ltb room (row_count d)) Wires _ parts.1))

module _ (d : Dimensions) (tables : Tables) (run : Run) (counts : List ℕ) where
  pub count-refused : (r : Refusal) → outcome (count_checks d tables run (length counts)) ≡ Err r → counts ≡ counts_after d tables run counts
  unfolding counts_after
  count-refused r e = rw e

  pub count-taken : outcome (count_checks d tables run (length counts)) ≡ Ok tt
      → sets counts 0 (free_counts_of d.n (rows_of d tables) run.t run.f) ≡ counts_after d tables run counts
  unfolding counts_after
  count-taken e = rw e
