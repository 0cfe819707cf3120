-- What the checks of packing lead to, each by its condition. From the order of the checks.
use mathlib.Core.Path.{◌≡◌, refl, sym, ap, ◌∙◌}
use mathlib.Core.Bool.{true, false}
use mathlib.Core.List.{List, ◌∷◌}
use Prim.Native.Nat.{ℕ, ◌≤◌, ◌<◌}
use lib.Dec.{ltb}
use lib.ListN.{length, take, length-map}
use lib.Seq.{take_at}
use borrow.Author.Tests.{lt-ltb, le-ltb, ltb-false}
use Rattle.std.specs.Prelude.{Ok, Err}
use Rattle.refusals.specs.Numbers.{Outcome}
use Rattle.refusals.specs.Checks.{Check, check, outcome}
use Rattle.refusals.specs.declared.Refusal.{Refusal}
use Rattle.refusals.specs.declared.Refusal.TheVariants.{Wires}
use Rattle.refusals.proofs.Outcomes.{outcome-taken, outcome-refused, check_passed, checks-taken, refused-taken}
use Rattle.words.specs.Booleans.{digit}
use Rattle.dimensions.specs.declared.Dimensions.{Dimensions}
use Rattle.dimensions.specs.Sizes.{state_wire_count, input_wires}
use Rattle.tables.specs.Tables.{Tables}
use Rattle.tables.specs.Acceptance.{table_checks}
use Rattle.tables.proofs.Accepted.{Accepted, accepted}
use Rattle.state.specs.declared.Run.{Run}
use Rattle.state.specs.State.{state_of}
use Rattle.state.specs.WellFormed.{well_formed, state_checks}
use Rattle.state.proofs.Checks.{state_formed, state-same}
use Rattle.gates.specs.Memory.{bytes_of, over}
use Rattle.wires.specs.Layout.{state_bits}
use Rattle.wires.specs.Packing.{input_bits, pack_checks, packed}
use Rattle.wires.specs.StatePacking.{packable, packed_state}
use Rattle.wires.proofs.Lengths.{input_length}

module _ (d : Dimensions) (tables : Tables) (run : Run) (room : ℕ) where
  abbrev later : List Check
  later = check (ltb room (input_wires d)) Wires ∷ state_checks d run

  pub refuse_tables : (r : Refusal) → outcome (table_checks d tables) ≡ Err r → Err r ≡ outcome (pack_checks d tables run room)
  refuse_tables r e = sym (outcome-refused (table_checks d tables) later r e)

  module _ (e : outcome (table_checks d tables) ≡ Ok tt) where
    rest : outcome (pack_checks d tables run room) ≡ outcome later
    rest = outcome-taken (table_checks d tables) later e

    -- where the tables are taken and there are fewer bytes than input wires, packing is refused for the wires
    pub refuse_room : room < input_wires d → Err Wires ≡ outcome (pack_checks d tables run room)
    refuse_room h = sym (rest ∙ rw (lt-ltb room (input_wires d) h))

    -- where the tables are taken and there is a byte for each input wire, the checks of the run decide
    pub state_decides : input_wires d ≤ room → outcome (state_checks d run) ≡ outcome (pack_checks d tables run room)
    state_decides h = sym (rest ∙ rw (le-ltb room (input_wires d) h))

-- ---- what a passed check gives

-- tables, room and run were taken
pub record Passed (d : Dimensions) (tables : Tables) (run : Run) (room : ℕ) : Type 0 where
  pub allowed : Accepted d tables
  pub enough : input_wires d ≤ room
  pub formed : well_formed run ≡ true
  pub same : run.n ≡ d.n

-- where packing is taken, tables are accepted, each input wire has a byte, and the run is well-formed with as many variables as the dimensions
pub passed : (d : Dimensions) (tables : Tables) (run : Run) (room : ℕ) → outcome (pack_checks d tables run room) ≡ Ok tt → Passed d tables run room
passed d tables run room e = go (outcome (table_checks d tables)) refl
  where
    go : (o : Outcome) → outcome (table_checks d tables) ≡ o → Passed d tables run room
    go (Err r) q = absurd (refused-taken (refuse_tables d tables run room r q ∙ e))
    go (Ok _) q =
        let k = sym (rest d tables run room q) ∙ e in
        let s = checks-taken (ltb room (input_wires d)) Wires _ k in record {
          allowed = accepted d tables q;
          enough = ltb-false room (input_wires d) (check_passed (ltb room (input_wires d)) Wires _ k);
          formed = state_formed d run s;
          same = state-same d run s;
        }

-- ---- the entries

module _ (d : Dimensions) (tables : Tables) (run : Run) (bytes : List ℕ) where
  pub pack-refused : (r : Refusal) → outcome (pack_checks d tables run (length bytes)) ≡ Err r → bytes ≡ packed d tables run bytes
  unfolding packed
  pack-refused r e = rw e

  -- where packing is taken, the lent bytes afterwards have the input values written over their front
  pub pack-taken : outcome (pack_checks d tables run (length bytes)) ≡ Ok tt → over (bytes_of (input_bits d tables (state_of run)))
      bytes ≡ packed d tables run bytes
  unfolding packed
  pack-taken e = rw e

  -- the front then holds the input values, as many bytes as there are input wires
  pub packed-front : outcome (pack_checks d tables run (length bytes)) ≡ Ok tt → take (input_wires d) (packed d tables run bytes)
      ≡ bytes_of (input_bits d tables (state_of run))
  packed-front e =
      ap (take (input_wires d)) (sym (pack-taken e))
      ∙ take_at (bytes_of (input_bits d tables (state_of run))) _ (input_wires d)
      (length-map (input_bits d tables (state_of run)) digit ∙ input_length d tables (state_of run))

module _ (run : Run) (bytes : List ℕ) where
  pub state_no_room : length bytes < state_wire_count run.n → (false ≡ packable run (length bytes)) × (bytes ≡ packed_state run bytes)
  unfolding packed_state
  state_no_room h = let e = lt-ltb (length bytes) (state_wire_count run.n) h in (rw e, rw e)

  module _ (h : state_wire_count run.n ≤ length bytes) where
    -- with a byte for each of the state's wires, the run can be packed just if it is well-formed
    pub state-decided : well_formed run ≡ packable run (length bytes)
    state-decided = rw (le-ltb (length bytes) (state_wire_count run.n) h)

    pub state-kept : well_formed run ≡ false → bytes ≡ packed_state run bytes
    unfolding packed_state
    state-kept k = rw (le-ltb (length bytes) (state_wire_count run.n) h, k)

    -- with a byte for each of the state's wires, packing a well-formed run writes these wires over the front of the bytes
    pub state-packed : well_formed run ≡ true → over (bytes_of (state_bits run.n (state_of run))) bytes ≡ packed_state run bytes
    unfolding packed_state
    state-packed k = rw (le-ltb (length bytes) (state_wire_count run.n) h, k)
