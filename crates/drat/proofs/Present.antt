-- Rows in words: one more after the others, and one less, the rows after it moved to the front. Each by what is at a place.
use mathlib.Core.Path.{◌≡◌, refl, sym, ap, ap₂, ◌∙◌}
use mathlib.Core.Bool.{true, false}
use mathlib.Core.List.{List, [], ◌∷◌, ◌++◌}
use Prim.Native.Nat.{ℕ, zero, suc, ◌+◌, ◌-◌, ◌*◌, ◌≤◌, ◌<◌}
use native.Mathlib.Omega.{arith}
use lib.ListN.{length, get_or, set, take, length-set}
use mathlib.Core.List.{map}
use borrow.Rule.Slice.PartMut.{put_mid}
use Rattle.std.specs.Simd.{first_chunks}
use Rattle.std.proofs.lemmas.List.{get_or-take, length-take-le, get_or_append_left, get_or-append_right}
use lib.Seq.{get_or-set_same, get_or-set_other}
use Rattle.words.specs.declared.Row.{Row}
use Rattle.words.proofs.Truth.{on}
use Rattle.tables.proofs.Pairs.{row, pairs_rows}
use Rattle.tables.specs.Rows.{row_at, rows_from}
use Rattle.drat.specs.Proofs.{is_same_row, without}
use Rattle.drat.specs.Places.{place, without_at}

-- ---- rows of words that agree

-- the rows of two buffers, each from a place of its own on
pub rows_shift : (w x : List ℕ) (i j k : ℕ) → ((a b : ℕ) → 2 * i ≤ a → a < 2 * (i + k) → b + 2 * i ≡ a + 2 * j → get_or w a 0 ≡ get_or x b 0)
    → rows_from w i k ≡ rows_from x j k
rows_shift w x i j zero h = refl
rows_shift w x i j (suc k) h =
    ap₂ (λ (r : Row) (rs : List Row). r ∷ rs)
    (ap₂ (λ (p q : ℕ). record { positive = p; negative = q })
    (h (2 * i) (2 * j) (omega arith) (omega arith) (omega arith)) (h (2 * i + 1) (2 * j + 1) (omega arith) (omega arith) (omega arith)))
    (rows_shift w x (suc i) (suc j) k (λ a b l m e. h a b (omega arith) (omega arith) (omega arith)))

rows_cong : (w x : List ℕ) (k : ℕ) → ((a : ℕ) → a < 2 * k → get_or w a 0 ≡ get_or x a 0) → rows_from w 0 k ≡ rows_from x 0 k
rows_cong w x k h = rows_shift w x 0 0 k (λ a b l m e. h a (omega arith) ∙ ap (λ (n : ℕ). get_or x n 0) (omega arith))

-- the first rows and those after them
rows_split : (w : List ℕ) (i m k n j : ℕ) → n ≡ m + k → j ≡ i + m → rows_from w i n ≡ rows_from w i m ++ rows_from w j k
rows_split w i zero k n j e f =
    let e' : n ≡ k = omega arith in
    let f' : j ≡ i = omega arith in
    rw (e', f') refl
rows_split w i (suc m) k n j e f =
    let e' : n ≡ suc (m + k) = omega arith in
    rw e' (ap (λ (rs : List Row). row_at w i ∷ rs) (rows_split w (suc i) m k (m + k) j refl (omega arith)))

-- ---- one more

module _ (w : List ℕ) (k p q : ℕ) (h : 2 * k + 2 ≤ length w) where
  abbrev stored : List ℕ
  stored = set (set w (2 * k) p) (2 * k + 1) q

  before_same : (j : ℕ) → j < 2 * k → get_or stored j 0 ≡ get_or w j 0
  before_same j b = get_or-set_other (set w (2 * k) p) (2 * k + 1) j q 0 (λ e. omega arith) ∙ get_or-set_other w (2 * k) j p 0 (λ e. omega arith)

  pub one_more : rows_from stored 0 (k + 1) ≡ rows_from w 0 k ++ (record { positive = p; negative = q } ∷ [])
  one_more =
      rows_split stored 0 k 1 (k + 1) k refl (omega arith)
      ∙ ap₂ (λ (rs : List Row) (r : Row). rs ++ (r ∷ [])) (rows_cong stored w k before_same)
      (ap₂ (λ (a b : ℕ). record { positive = a; negative = b })
      (get_or-set_other (set w (2 * k) p) (2 * k + 1) (2 * k) q 0 (λ e. omega arith) ∙ get_or-set_same w (2 * k) p 0 (omega arith))
      (get_or-set_same (set w (2 * k) p) (2 * k + 1) q 0 (simp length-set (omega arith))))

-- ---- the place of a clause

without-place : (c : Row) (rs : List Row) → without c rs ≡ without_at (place c rs) rs
unfolding without place without_at
without-place c [] = refl
without-place c (r ∷ rs) = on (is_same_row c r) (λ e. rw e) (λ e. rw e (ap (λ (xs : List Row). r ∷ xs) (without-place c rs)))

rows-length : (w : List ℕ) (i k : ℕ) → length (rows_from w i k) ≡ k
rows-length w i zero = refl
rows-length w i (suc k) = ap suc (rows-length w (suc i) k)

pub front_rows : (w : List ℕ) (k : ℕ) → map row (first_chunks 2 k (take (2 * k) w)) ≡ rows_from w 0 k
front_rows w k = pairs_rows (take (2 * k) w) w k 0 (λ a b l e. get_or-take (2 * k) w a 0 l ∙ ap (λ (n : ℕ). get_or w n 0) (omega arith))

-- the place by pairs: 0 at a pair that is the clause's row, else one more than in the others
module _ (c : Row) where
  abbrev pub pair_place : List (List ℕ) → ℕ
  pair_place pairs = place c (map row pairs)

  pub place_hit : (x : List ℕ) (xs : List (List ℕ)) → is_same_row c (row x) ≡ true → pair_place (x ∷ xs) ≡ 0
  unfolding place
  place_hit x xs e = rw e refl

  pub place_miss : (x : List ℕ) (xs : List (List ℕ)) → is_same_row c (row x) ≡ false → pair_place (x ∷ xs) ≡ pair_place xs + 1
  unfolding place
  place_miss x xs e = rw e (omega arith)

  pub place_none : pair_place [] ≡ 0
  unfolding place
  place_none = refl

-- ---- one less

closed : (w₀ w : List ℕ) (d i m : ℕ) → d ≤ m → ((j : ℕ) → j < 2 * (i + d) → get_or w j 0 ≡ get_or w₀ j 0)
    → ((j : ℕ) → 2 * (i + d) ≤ j → j < 2 * (i + m) → get_or w j 0 ≡ get_or w₀ (j + 2) 0) → rows_from w i m ≡ without_at d (rows_from w₀ i (suc m))
unfolding without_at
closed w₀ w zero i m h below inside =
    rows_shift w w₀ i (suc i) m (λ a b l j e. inside a (omega arith) j ∙ ap (λ (n : ℕ). get_or w₀ n 0) (omega arith))
closed w₀ w (suc d) i zero h below inside = absurd (omega arith)
closed w₀ w (suc d) i (suc m) h below inside =
    ap₂ (λ (r : Row) (rs : List Row). r ∷ rs)
    (ap₂ (λ (p q : ℕ). record { positive = p; negative = q }) (below (2 * i) (omega arith)) (below (2 * i + 1) (omega arith)))
    (closed w₀ w d (suc i) m (omega arith) (λ j b. below j (omega arith)) (λ j b c. inside j (omega arith) (omega arith)))

-- the words after a row moved to its place
pub gap_closed : (w₀ w : List ℕ) (at count : ℕ) → at < count → ((j : ℕ) → j < 2 * at → get_or w j 0 ≡ get_or w₀ j 0)
    → ((j : ℕ) → 2 * at ≤ j → j < 2 * count - 2 → get_or w j 0 ≡ get_or w₀ (j + 2) 0) → rows_from w 0 (count - 1) ≡ without_at at (rows_from w₀ 0 count)
gap_closed w₀ w at zero h below inside = absurd (omega arith)
gap_closed w₀ w at (suc m) h below inside =
    ap (λ (j : ℕ). rows_from w 0 j) (let z : suc m - 1 ≡ m = omega arith in z)
    ∙ closed w₀ w at 0 m (omega arith) (λ j b. below j (omega arith)) (λ j b c. inside j (omega arith) (omega arith))

without-none : (i : ℕ) (rs : List Row) → length rs ≤ i → without_at i rs ≡ rs
unfolding without_at
without-none i [] h = refl
without-none zero (r ∷ rs) h = absurd (omega arith)
without-none (suc i) (r ∷ rs) h = ap (λ (xs : List Row). r ∷ xs) (without-none i rs (omega arith))

-- ---- a deletion

module _ (c : Row) (w : List ℕ) (count at : ℕ) (e : at ≡ place c (rows_from w 0 count)) where
  pub deleted_none : count ≤ at → rows_from w 0 count ≡ without c (rows_from w 0 count)
  deleted_none h =
      let rows = rows_from w 0 count in
      sym (without-place c rows ∙ without-none (place c rows) rows (omega (arith, e, rows-length w 0 count)))

  pub deleted_one : (x : List ℕ) → rows_from x 0 (count - 1) ≡ without_at at (rows_from w 0 count) → rows_from x 0 (count - 1) ≡ without c (rows_from w 0 count)
  deleted_one x h = h ∙ ap (λ (i : ℕ). without_at i (rows_from w 0 count)) e ∙ sym (without-place c (rows_from w 0 count))

-- ---- a table's rows

-- a table's words put after the rows
pub appended : (w out table : List ℕ) (count rows k : ℕ) → 2 * (count + rows) ≤ length w → 2 * rows ≤ length table → out ≡ take (2 * rows) table → k ≡ 2 * rows
    → rows_from (put_mid (2 * count) k w out) 0 (count + rows) ≡ rows_from w 0 count ++ rows_from table 0 rows
appended w out table count rows k h l o e =
    rows_split (put_mid (2 * count) k w out) 0 count rows (count + rows) count refl (omega arith)
    ∙ ap₂ (λ (xs ys : List Row). xs ++ ys) (rows_cong (put_mid (2 * count) k w out) w count (λ a b.
    get_or_append_left (take (2 * count) w) _ 0 a (omega (arith, front)) ∙ get_or-take (2 * count) w a 0 b))
    (rows_shift (put_mid (2 * count) k w out) table count 0 rows (λ a b m n f.
    get_or-append_right (take (2 * count) w) _ (2 * count) a 0 front m
    ∙ get_or_append_left out _ 0 (a - 2 * count) (omega (arith, ap length o, length-take-le (2 * rows) table l))
    ∙ ap (λ (x : List ℕ). get_or x (a - 2 * count) 0) o ∙ get_or-take (2 * rows) table (a - 2 * count) 0 (omega arith)
    ∙ ap (λ (x : ℕ). get_or table x 0) (omega arith)))
  where
    front : length (take (2 * count) w) ≡ 2 * count
    front = length-take-le (2 * count) w (omega arith)
