-- A row stored in a table's words is the row of that place and the others stay, so the rows of all tables are those with one replaced; lengths stay, and words
-- stay below 2 ^ n. By induction on the rows and on the words.
use mathlib.Core.Path.{◌≡◌, refl, sym, ap, ap₂, ◌∙◌}
use mathlib.Core.Bool.{Bool, true, false, not, ◌&&◌, ◌||◌}
use mathlib.Core.List.{List, [], ◌∷◌, ◌++◌}
use Prim.Native.Nat.{ℕ, zero, suc, ◌+◌, ◌-◌, ◌*◌, ◌^◌, ◌≤◌, ◌<◌}
use native.Mathlib.Omega.{arith}
use lib.Dec.{eqb, ltb, leb}
use lib.ListN.{length, set, take, length-set}
use lib.Seq.{get_or-set_same, get_or-set_other, set-append_left}
use borrow.Author.Tests.{ltb-true, leb-true, leb-false, not-false}
use Rattle.std.specs.Prelude.{Ok}
use Rattle.refusals.specs.Checks.{check, outcome}
use Rattle.refusals.specs.declared.Refusal.TheVariants.{RowBit, RowBuffer}
use Rattle.refusals.proofs.Outcomes.{outcome_parts, check_passed, checks-taken}
use Rattle.words.specs.declared.Row.{Row}
use Rattle.words.proofs.Truth.{on, and_l, and_r, and_i, or-three}
use Rattle.dimensions.specs.declared.Dimensions.{Dimensions}
use Rattle.dimensions.specs.Sizes.{size_checks}
use Rattle.tables.specs.Tables.{Tables}
use Rattle.tables.specs.Rows.{row_at, rows_from, rows_of_public, rows_of}
use Rattle.tables.specs.Acceptance.{all_below, low_row, short, high, any_short, any_high, word_checks, table_checks}
use Rattle.tables.proofs.Accepted.{accepted}
use Rattle.tables.proofs.Numbering.{table-length}
use Rattle.late.specs.declared.Condition.{Condition}
use Rattle.late.specs.Replacement.{owns, put_row, replaced_in}

-- ---- whose row

module _ (d : Dimensions) (station number : ℕ) (own : owns d station number ≡ true) where
  -- a number of a left or right row
  pub owned-number : (0 < number) × (number ≤ d.left + d.right)
  owned-number =
      on (eqb station 0)
      (λ e.
      let o : ltb 0 number && leb number d.left ≡ true = rw e at own in
      let a = ltb-true 0 number (and_l (ltb 0 number) _ o) in
      let b = leb-true number d.left (and_r (ltb 0 number) _ o) in
      (a, omega arith))
      (λ e.
      let o : eqb station 1 && (ltb d.left number && leb number (d.left + d.right)) ≡ true = rw e at own in
      let p = and_r (eqb station 1) _ o in
      let a = ltb-true d.left number (and_l (ltb d.left number) _ p) in
      (omega arith, leb-true number (d.left + d.right) (and_r (ltb d.left number) _ p)))

  -- its place in the left table, or in the right one
  pub owned-place : (leb number d.left ≡ true → number - 1 < d.left) × (leb number d.left ≡ false → number - 1 - d.left < d.right)
  owned-place = (
    (λ e. let o = owned-number in omega (arith, leb-true number d.left e)),
    (λ e. let o = owned-number in omega (arith, leb-false number d.left e)),
  )

-- ---- the rows of one table

module _ (words : List ℕ) (i : ℕ) (r : Row) (h : 2 * i + 1 < length words) where
  here : row_at (put_row words i r) i ≡ r
  here =
      ap₂ (λ (p q : ℕ). record { positive = p; negative = q })
      (get_or-set_other (set words (2 * i) r.positive) (2 * i + 1) (2 * i) r.negative 0 (λ e. omega arith)
      ∙ get_or-set_same words (2 * i) r.positive 0 (omega arith))
      (get_or-set_same (set words (2 * i) r.positive) (2 * i + 1) r.negative 0 (omega (arith, length-set words (2 * i) r.positive)))

  elsewhere : (j : ℕ) → (j ≡ i → ⊥) → row_at (put_row words i r) j ≡ row_at words j
  elsewhere j n =
      ap₂ (λ (p q : ℕ). record { positive = p; negative = q })
      (get_or-set_other (set words (2 * i) r.positive) (2 * i + 1) (2 * j) r.negative 0 (λ e. omega arith)
      ∙ get_or-set_other words (2 * i) (2 * j) r.positive 0 (λ e. n (omega arith)))
      (get_or-set_other (set words (2 * i) r.positive) (2 * i + 1) (2 * j + 1) r.negative 0 (λ e. n (omega arith))
      ∙ get_or-set_other words (2 * i) (2 * j + 1) r.positive 0 (λ e. omega arith))

  behind : (j k : ℕ) → i < j → rows_from (put_row words i r) j k ≡ rows_from words j k
  behind j zero b = refl
  behind j (suc k) b = ap₂ (λ (x : Row) (xs : List Row). x ∷ xs) (elsewhere j (λ e. omega arith)) (behind (suc j) k (omega arith))

rows-put : (words : List ℕ) (r : Row) (k j i : ℕ) → 2 * (j + i) + 1 < length words → rows_from (put_row words (j + i) r) j k ≡ set (rows_from words j k) i r
rows-put words r zero j i h = refl
rows-put words r (suc k) j zero h =
    let e : j + 0 ≡ j = omega arith in
    ap (λ (x : ℕ). rows_from (put_row words x r) j (suc k)) e
    ∙ ap₂ (λ (x : Row) (xs : List Row). x ∷ xs) (here words j r (omega arith)) (behind words j r (omega arith) (suc j) k (omega arith))
rows-put words r (suc k) j (suc i) h =
    let e : j + suc i ≡ suc j + i = omega arith in
    ap₂ (λ (x : Row) (xs : List Row). x ∷ xs) (elsewhere words (j + suc i) r h j (λ q. omega arith))
    (ap (λ (x : ℕ). rows_from (put_row words x r) (suc j) k) e ∙ rows-put words r k (suc j) i (omega arith))

-- from the first row on
table-put : (words : List ℕ) (r : Row) (k i : ℕ) → i < k → 2 * k ≤ length words → rows_from (put_row words i r) 0 k ≡ set (rows_from words 0 k) i r
table-put words r k i b h =
    let e : i ≡ 0 + i = omega arith in ap (λ (x : ℕ). rows_from (put_row words x r) 0 k) e ∙ rows-put words r k 0 i (omega arith)

-- ---- the rows of all tables

set_append_right : (xs ys : List Row) (i : ℕ) (r : Row) → set (xs ++ ys) (length xs + i) r ≡ xs ++ set ys i r
set_append_right [] ys i r = let e : 0 + i ≡ i = omega arith in ap (λ (k : ℕ). set ys k r) e
set_append_right (x ∷ xs) ys i r =
    let e : suc (length xs) + i ≡ suc (length xs + i) = omega arith in
    ap (λ (k : ℕ). set (x ∷ (xs ++ ys)) k r) e ∙ ap (λ (l : List Row). x ∷ l) (set_append_right xs ys i r)

module _ (d : Dimensions) (tables : Tables) (c : Condition) where
  abbrev rows_of_left : List Row
  rows_of_left = rows_from tables.left 0 d.left

  abbrev rows_of_right : List Row
  rows_of_right = rows_from tables.right 0 d.right

  -- the rows afterwards are those before with one in the place of its number
  pub rows_replaced : outcome (table_checks d tables) ≡ Ok tt → owns d c.station c.replaced ≡ true
      → rows_of d (replaced_in d tables c) ≡ set (rows_of d tables) (c.replaced - 1) c.row
  unfolding replaced_in
  rows_replaced acc own =
      let place = owned-place d c.station c.replaced own in
      let a = accepted d tables acc in
      on (leb c.replaced d.left)
      (λ e.
      let i = c.replaced - 1 in
      rw e
      (ap (λ (l : List Row). l ++ (rows_of_right ++ rows_of_public d tables)) (table-put tables.left c.row d.left i (place.0 e) a.left-length)
      ∙ sym (set-append_left rows_of_left (rows_of_right ++ rows_of_public d tables) i c.row (omega (arith, place.0 e, table-length tables.left 0 d.left)))))
      (λ e.
      let i = c.replaced - 1 - d.left in
      let k : length rows_of_left + i ≡ c.replaced - 1 = omega (arith, table-length tables.left 0 d.left, leb-false c.replaced d.left e) in
      rw e
      (ap (λ (l : List Row). rows_of_left ++ (l ++ rows_of_public d tables)) (table-put tables.right c.row d.right i (place.1 e) a.right_length)
      ∙ ap (λ (l : List Row). rows_of_left
      ++ l) (sym (set-append_left rows_of_right (rows_of_public d tables) i c.row (omega (arith, place.1 e, table-length tables.right 0 d.right))))
      ∙ sym (set_append_right rows_of_left (rows_of_right ++ rows_of_public d tables) i c.row)
      ∙ ap (λ (x : ℕ). set (rows_of d tables) x c.row) k))

  -- the public table stays
  pub public_still : (replaced_in d tables c).public ≡ tables.public
  unfolding replaced_in
  public_still = on (leb c.replaced d.left) (λ e. rw e) (λ e. rw e)

-- ---- acceptance

below_set : (n : ℕ) (ws : List ℕ) (k i x : ℕ) → ltb x (2 ^ n) ≡ true → all_below n (take k ws) ≡ true → all_below n (take k (set ws i x)) ≡ true
unfolding all_below
below_set n [] k i x h e = e
below_set n (w ∷ ws) zero zero x h e = e
below_set n (w ∷ ws) zero (suc i) x h e = e
below_set n (w ∷ ws) (suc k) zero x h e = and_i h (and_r (ltb w (2 ^ n)) _ e)
below_set n (w ∷ ws) (suc k) (suc i) x h e = and_i (and_l (ltb w (2 ^ n)) _ e) (below_set n ws k i x h (and_r (ltb w (2 ^ n)) _ e))

module _ (n rows : ℕ) (words : List ℕ) (i : ℕ) (r : Row) where
  still_long : short rows (put_row words i r) ≡ short rows words
  still_long = ap (λ (k : ℕ). ltb k (2 * rows)) (length-set (set words (2 * i) r.positive) (2 * i + 1) r.negative
      ∙ length-set words (2 * i) r.positive)

  still_low : low_row n r ≡ true → high n rows words ≡ false → high n rows (put_row words i r) ≡ false
  still_low h e =
      ap not (below_set n (set words (2 * i) r.positive) (2 * rows) (2 * i + 1) r.negative (and_r (ltb r.positive (2 ^ n)) _ h)
      (below_set n words (2 * rows) (2 * i) r.positive (and_l (ltb r.positive (2 ^ n)) _ h) (not-false (all_below n (take (2 * rows) words)) e)))

module _ (d : Dimensions) (tables : Tables) (c : Condition) where
  -- by a row of words below 2 ^ n
  pub accepted_still : outcome (table_checks d tables) ≡ Ok tt → low_row d.n c.row ≡ true → outcome (table_checks d (replaced_in d tables c)) ≡ Ok tt
  unfolding replaced_in
  accepted_still acc low =
      let words = (outcome_parts (size_checks d) (word_checks d tables) acc).1 in
      let none = or-three (high d.n d.left tables.left) (high d.n d.right tables.right) (high d.n d.public tables.public)
      (check_passed (any_high d tables) RowBit (Ok tt) (checks-taken (any_short d tables) RowBuffer _ words)) in
      let left = tables.left in
      let right = tables.right in
      let i = c.replaced - 1 in
      let j = c.replaced - 1 - d.left in
      on (leb c.replaced d.left)
      (λ e. rw e (same
      (ap (λ (b : Bool). b || short d.right right || short d.public tables.public) (still_long d.n d.left left i c.row))
      (ap (λ (b : Bool). b || high d.n d.right right || high d.n d.public tables.public)
      (still_low d.n d.left left i c.row low none.0 ∙ sym none.0))))
      (λ e. rw e (same
      (ap (λ (b : Bool). short d.left left || b || short d.public tables.public) (still_long d.n d.right right j c.row))
      (ap (λ (b : Bool). high d.n d.left left || b || high d.n d.public tables.public)
      (still_low d.n d.right right j c.row low none.1 ∙ sym none.1))))
    where
      same : {b b' : Bool} → b ≡ any_short d tables → b' ≡ any_high d tables → outcome (size_checks d ++ (check b RowBuffer ∷ check b' RowBit ∷ [])) ≡ Ok tt
      same e e' = ap₂ (λ (x y : Bool). outcome (size_checks d ++ (check x RowBuffer ∷ check y RowBit ∷ []))) e e' ∙ acc
