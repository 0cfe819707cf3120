-- What the checks of a late condition lead to, each by its condition, what they give where they are passed, and the tables then. From the order of the checks.
use mathlib.Core.Path.{◌≡◌, refl, sym, ap, ◌∙◌, fun_ext}
use mathlib.Core.Bool.{Bool, true, false, not, ◌&&◌, cond, true≢false}
use mathlib.Core.List.{List, [], ◌∷◌, ◌++◌}
use Prim.Native.Nat.{ℕ, ◌+◌, ◌-◌, ◌*◌, ◌^◌, ◌≤◌, ◌<◌}
use native.Mathlib.Omega.{arith}
use lib.Dec.{eqb, ltb, leb}
use lib.Bits.{bit_and}
use lib.ListN.{get_or}
use borrow.Author.Tests.{eq-eqb, ne_eqb, le-leb, lt-leb, leb-false, not-false}
use Rattle.std.specs.Prelude.{Ok, Err}
use Rattle.refusals.specs.Checks.{Check, check, outcome}
use Rattle.refusals.specs.declared.Refusal.{Refusal}
use Rattle.refusals.specs.declared.Refusal.TheVariants.{RowBit, NotPadding, Closed}
use Rattle.refusals.proofs.Outcomes.{outcome-taken, outcome-refused, outcome_parts, check_passed, checks-taken}
use Rattle.words.specs.declared.Row.{Row}
use Rattle.words.specs.Sets.{bit, any}
use Rattle.words.proofs.Truth.{on, and_l, and_r}
use Rattle.words.proofs.Upto.{any_width}
use Rattle.words.proofs.Operations.{bit-and, bit_high, any_word, and-lt-left}
use Rattle.dimensions.specs.declared.Dimensions.{Dimensions}
use Rattle.tables.specs.Tables.{Tables}
use Rattle.tables.specs.Rows.{row_at, rows_of, empty, padding}
use Rattle.tables.specs.Acceptance.{low_row, table_checks}
use Rattle.tables.proofs.Accepted.{accepted}
use Rattle.tables.proofs.Numbering.{left-row, right_row}
use Rattle.state.specs.declared.Run.{Run}
use Rattle.state.specs.declared.Standing.{Standing}
use Rattle.state.specs.declared.Standing.TheVariants.{Open, Satisfied, Refuted}
use Rattle.state.specs.State.{if_open}
use Rattle.state.specs.WellFormed.{state_checks}
use Rattle.late.specs.declared.Condition.{Condition}
use Rattle.late.specs.Replacement.{owns, padding_at, condition_checks, late_checks, put_row, replaced_in, tables_after}
use Rattle.late.proofs.Rows.{owned-place}

-- ---- padding

-- both words together are not 0
pub padding-word : (r : Row) → r.positive < 2 ^ 32 → not (eqb (bit_and r.positive r.negative) 0) ≡ padding 32 r
unfolding padding
padding-word r h =
    let both = bit_and r.positive r.negative in
    sym (any_word 32 both (and-lt-left 32 _ _ h))
    ∙ ap (λ (p : ℕ → Bool). any p 32) (fun_ext (λ i. bit-and r.positive r.negative i))

-- a row of n variables is judged alike at every greater width
padding_width : (n k : ℕ) (r : Row) → n ≤ k → r.positive < 2 ^ n → padding k r ≡ padding n r
unfolding padding
padding_width n k r h low = any_width (λ i. bit r.positive i && bit r.negative i) n k h (λ i b. rw (bit_high n r.positive i low b))

-- ---- 15

module _ (d : Dimensions) (station number : ℕ) where
  pub owns-left : station ≡ 0 → ltb 0 number && leb number d.left ≡ owns d station number
  owns-left h = rw (eq-eqb station 0 h)

  module _ (other : station ≡ 0 → ⊥) where
    pub owns_right : station ≡ 1 → ltb d.left number && leb number (d.left + d.right) ≡ owns d station number
    owns_right h = rw (ne_eqb station 0 other, eq-eqb station 1 h)

    pub owns_none : (station ≡ 1 → ⊥) → false ≡ owns d station number
    owns_none h = rw (ne_eqb station 0 other, ne_eqb station 1 h)

-- what the code reads: the row of a number in its own table, at the width of a word
abbrev pub read_padding : Dimensions → List ℕ → List ℕ → ℕ → Bool
read_padding d left right number = cond (leb number d.left) (padding 32 (row_at left (number - 1))) (padding 32 (row_at right (number - 1 - d.left)))

module _ (d : Dimensions) (left right : List ℕ) (station number : ℕ) where
  pub read_none : owns d station number ≡ false → false ≡ owns d station number && read_padding d left right number
  read_none none = rw none

  module _ (own : owns d station number ≡ true) where
    pub read_left : number ≤ d.left → padding 32 (row_at left (number - 1)) ≡ owns d station number && read_padding d left right number
    read_left h = rw (own, le-leb number d.left h)

    pub read_right : d.left < number → padding 32 (row_at right (number - 1 - d.left)) ≡ owns d station number && read_padding d left right number
    read_right h = rw (own, lt-leb number d.left h)

-- of accepted tables it is the definition's row
module _ (d : Dimensions) (tables : Tables) (acc : outcome (table_checks d tables) ≡ Ok tt) (station number : ℕ) where
  own-padding : owns d station number ≡ true → read_padding d tables.left tables.right number ≡ padding_at d tables number
  own-padding own =
      let place = owned-place d station number own in
      let a = accepted d tables acc in
      on (leb number d.left)
      (λ e.
      let i = number - 1 in
      rw e
      (padding_width d.n 32 (row_at tables.left i) a.size.n-most (a.left-words (2 * i) (omega (arith, place.0 e)))
      ∙ ap (padding d.n) (sym (left-row d tables i (place.0 e)))))
      (λ e.
      let i = number - 1 - d.left in
      let k : d.left + i ≡ number - 1 = omega (arith, leb-false number d.left e) in
      rw e
      (padding_width d.n 32 (row_at tables.right i) a.size.n-most (a.right_words (2 * i) (omega (arith, place.1 e)))
      ∙ ap (padding d.n) (sym (right_row d tables i (place.1 e)))
      ∙ ap (λ (j : ℕ). padding d.n (get_or (rows_of d tables) j empty)) k))

  read-padding : owns d station number && read_padding d tables.left tables.right number ≡ owns d station number && padding_at d tables number
  read-padding = on (owns d station number) (λ own. ap (λ (b : Bool). owns d station number && b) (own-padding own)) (λ none. rw none)

-- ---- the checks in order

module _ (d : Dimensions) (tables : Tables) (run : Run) (c : Condition) where
  abbrev checks : List Check
  checks = condition_checks d tables run c

  pub refuse_tables : (r : Refusal) → outcome (table_checks d tables) ≡ Err r → Err r ≡ outcome (late_checks d tables run c)
  refuse_tables r e = sym (outcome-refused (table_checks d tables) (state_checks d run ++ checks) r e)

  module _ (acc : outcome (table_checks d tables) ≡ Ok tt) where
    pub refuse_state : (r : Refusal) → outcome (state_checks d run) ≡ Err r → Err r ≡ outcome (late_checks d tables run c)
    refuse_state r e = sym (outcome-taken (table_checks d tables) (state_checks d run ++ checks) acc ∙ outcome-refused (state_checks d run) checks r e)

    -- where the tables and what is asked of the run are taken, the condition decides
    pub condition_decides : (asked : List Check) → outcome asked ≡ Ok tt → outcome (table_checks d tables ++ (asked ++ checks)) ≡ outcome checks
    condition_decides asked e = outcome-taken (table_checks d tables) (asked ++ checks) acc ∙ outcome-taken asked checks e

    module _ (formed : outcome (state_checks d run) ≡ Ok tt) where
      -- the condition's checks by what the code reads
      decided : (p : Bool) → p ≡ owns d c.station c.replaced && read_padding d tables.left tables.right c.replaced
          → outcome (late_checks d tables run c)
          ≡ outcome (check (not p) NotPadding ∷ check (if_open run.standing false true) Closed ∷ check (not (low_row d.n c.row)) RowBit ∷ [])
      decided p e =
          condition_decides (state_checks d run) formed
          ∙ ap (λ (b : Bool). outcome
          (check (not b) NotPadding ∷ check (if_open run.standing false true) Closed ∷ check (not (low_row d.n c.row)) RowBit ∷ []))
          (sym (e ∙ read-padding d tables acc c.station c.replaced))

      module _ (p : Bool) (read : p ≡ owns d c.station c.replaced && read_padding d tables.left tables.right c.replaced) where
        pub refuse_padding : p ≡ false → Err NotPadding ≡ outcome (late_checks d tables run c)
        refuse_padding e = sym (decided p read ∙ rw e)

        module _ (pad : p ≡ true) where
          pub refuse_closed : if_open run.standing false true ≡ true → Err Closed ≡ outcome (late_checks d tables run c)
          refuse_closed e = sym (decided p read ∙ rw (pad, e))

          module _ (running : if_open run.standing false true ≡ false) where
            pub refuse_row : low_row d.n c.row ≡ false → Err RowBit ≡ outcome (late_checks d tables run c)
            refuse_row e = sym (decided p read ∙ rw (pad, running, e))

            pub take_condition : low_row d.n c.row ≡ true → Ok tt ≡ outcome (late_checks d tables run c)
            take_condition e = sym (decided p read ∙ rw (pad, running, e))

-- ---- what is taken

-- a condition that is taken: a padding row of the station's own, an open run, a new row of n variables
pub record Fitting (d : Dimensions) (tables : Tables) (run : Run) (c : Condition) : Type 0 where
  pub owned : owns d c.station c.replaced ≡ true
  pub padded : padding_at d tables c.replaced ≡ true
  pub running : run.standing ≡ Open
  pub low : low_row d.n c.row ≡ true

-- with accepted tables and a well-formed run of their n
pub record Allowed (d : Dimensions) (tables : Tables) (run : Run) (c : Condition) : Type 0 where
  pub tables-taken : outcome (table_checks d tables) ≡ Ok tt
  pub state-taken : outcome (state_checks d run) ≡ Ok tt
  pub fitting : Fitting d tables run c

still_open : (s : Standing) → if_open s false true ≡ false → s ≡ Open
still_open Open e = refl
still_open Satisfied e = absurd (true≢false e)
still_open Refuted e = absurd (true≢false e)

module _ (d : Dimensions) (tables : Tables) (run : Run) (c : Condition) where
  -- where a condition passes its own checks, it replaces a padding row of its station's, the run is open, and the new row has no bit at or above n
  pub condition_parts : outcome (condition_checks d tables run c) ≡ Ok tt → Fitting d tables run c
  condition_parts e =
      let own = owns d c.station c.replaced in
      let pad = padding_at d tables c.replaced in
      let spare = not-false (own && pad) (check_passed (not (own && pad)) NotPadding _ e) in
      let e₁ = checks-taken (not (own && pad)) NotPadding _ e in
      let e₂ = checks-taken (if_open run.standing false true) Closed _ e₁ in
      record {
        owned = and_l own pad spare;
        padded = and_r own pad spare;
        running = still_open run.standing (check_passed (if_open run.standing false true) Closed _ e₁);
        low = not-false (low_row d.n c.row) (check_passed (not (low_row d.n c.row)) RowBit (Ok tt) e₂);
      }

  -- a condition that passes all checks has accepted tables and a well-formed run beside it
  pub late_parts : outcome (late_checks d tables run c) ≡ Ok tt → Allowed d tables run c
  late_parts e =
      let first = outcome_parts (table_checks d tables) (state_checks d run ++ condition_checks d tables run c) e in
      let then = outcome_parts (state_checks d run) (condition_checks d tables run c) first.1 in
      record { tables-taken = first.0; state-taken = then.0; fitting = condition_parts then.1 }

  -- ---- the tables afterwards

  -- where it is taken, the tables have the row in its place
  pub after-taken : outcome (late_checks d tables run c) ≡ Ok tt → tables_after d tables run c ≡ replaced_in d tables c
  unfolding tables_after
  after-taken e = rw e

  -- where it is refused, they are as they were
  pub after-refused : (r : Refusal) → outcome (late_checks d tables run c) ≡ Err r → tables_after d tables run c ≡ tables
  unfolding tables_after
  after-refused r e = rw e

  module _ (e : outcome (late_checks d tables run c) ≡ Ok tt) where
    pub left-replaced : c.replaced ≤ d.left
        → (put_row tables.left (c.replaced - 1) c.row ≡ (tables_after d tables run c).left) × (tables.right ≡ (tables_after d tables run c).right)
    unfolding replaced_in
    left-replaced h =
        let q = after-taken e in
        let t = le-leb c.replaced d.left h in
        (rw q (rw t), rw q (rw t))

    pub right_replaced : d.left < c.replaced
        → (tables.left ≡ (tables_after d tables run c).left) × (put_row tables.right (c.replaced - 1 - d.left) c.row ≡ (tables_after d tables run c).right)
    unfolding replaced_in
    right_replaced h =
        let q = after-taken e in
        let t = lt-leb c.replaced d.left h in
        (rw q (rw t), rw q (rw t))
