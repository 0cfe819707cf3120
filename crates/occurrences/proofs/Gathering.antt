-- The gathered words of accepted tables hold exactly their rows, in order. By induction on the rows of one table, one table after the other.
use mathlib.Core.Path.{◌≡◌, refl, sym, ap, ap₂, ◌∙◌}
use mathlib.Core.List.{List, ◌∷◌, ◌++◌, append-nil, append_assoc}
use Prim.Native.Nat.{ℕ, zero, suc, ◌+◌, ◌*◌, ◌≤◌, ◌<◌, min}
use native.Mathlib.Omega.{arith}
use lib.ListN.{length, get_or, drop, replicate, length-append, length-replicate, get_or-append}
use lib.Seq.{sets, sets-eq, length-sets, length-take-le, get_or-take, get_or-append-add}
use Rattle.std.specs.Prelude.{Ok}
use Rattle.refusals.specs.Checks.{outcome}
use Rattle.words.specs.declared.Row.{Row}
use Rattle.dimensions.specs.declared.Dimensions.{Dimensions}
use Rattle.dimensions.specs.Sizes.{row_count}
use Rattle.tables.specs.Tables.{Tables}
use Rattle.tables.specs.Rows.{row_at, rows_from, rows_of}
use Rattle.tables.specs.Acceptance.{table_checks}
use Rattle.tables.proofs.Accepted.{Accepted, accepted}
use Rattle.occurrences.specs.Index.{index_of}
use Rattle.occurrences.specs.RowWords.{table_words, all_words, gathered}

-- the same words give the same rows, wherever they are
rows_cong : (k : ℕ) (v w : List ℕ) (i j : ℕ) → ((n : ℕ) → n < 2 * k → get_or v (2 * i + n) 0 ≡ get_or w (2 * j + n) 0) → rows_from v i k ≡ rows_from w j k
rows_cong zero v w i j h = refl
rows_cong (suc k) v w i j h =
    ap₂ (λ (r : Row) (rs : List Row). r ∷ rs)
    (ap₂ (λ (p q : ℕ). record { positive = p; negative = q }) (sym (first v i) ∙ h 0 (omega arith) ∙ first w j) (h 1 (omega arith)))
    (rows_cong k v w (suc i) (suc j) (λ n b. next v i n ∙ h (2 + n) (omega arith) ∙ sym (next w j n)))
  where
    first : (u : List ℕ) (i : ℕ) → get_or u (2 * i + 0) 0 ≡ get_or u (2 * i) 0
    first u i = let e : 2 * i + 0 ≡ 2 * i = omega arith in ap (λ (x : ℕ). get_or u x 0) e

    next : (u : List ℕ) (i n : ℕ) → get_or u (2 * suc i + n) 0 ≡ get_or u (2 * i + (2 + n)) 0
    next u i n = let e : 2 * suc i + n ≡ 2 * i + (2 + n) = omega arith in ap (λ (x : ℕ). get_or u x 0) e

-- rows of two runs of words
rows_split : (w : List ℕ) (a i b : ℕ) → rows_from w i (a + b) ≡ rows_from w i a ++ rows_from w (i + a) b
rows_split w zero i b =
    let e : 0 + b ≡ b = omega arith in
    let z : i ≡ i + 0 = omega arith in
    ap₂ (λ (x y : ℕ). rows_from w x y) z e
rows_split w (suc a) i b =
    let e : suc a + b ≡ suc (a + b) = omega arith in
    let z : suc i + a ≡ i + suc a = omega arith in
    ap (λ (k : ℕ). rows_from w i k) e
    ∙ ap (λ (rs : List Row). row_at w i ∷ rs) (rows_split w a (suc i) b ∙ ap (λ (k : ℕ). rows_from w (suc i) a ++ rows_from w k b) z)

-- a table's words, and others after them
module _ (rows : ℕ) (words rest : List ℕ) (h : 2 * rows ≤ length words) where
  abbrev own : List ℕ
  own = table_words rows words

  long : length own ≡ 2 * rows
  long = length-take-le (2 * rows) words h

  before : (n : ℕ) → n < 2 * rows → get_or (own ++ rest) (2 * 0 + n) 0 ≡ get_or words (2 * 0 + n) 0
  before n b = get_or-append own rest 0 (2 * 0 + n) (omega (arith, long)) ∙ get_or-take (2 * rows) words (2 * 0 + n) 0 (omega arith)

  behind : (n : ℕ) → get_or (own ++ rest) (2 * (0 + rows) + n) 0 ≡ get_or rest (2 * 0 + n) 0
  behind n =
      let e : 2 * (0 + rows) + n ≡ length own + (2 * 0 + n) = omega (arith, long) in
      ap (λ (x : ℕ). get_or (own ++ rest) x 0) e ∙ get_or-append-add own rest (2 * 0 + n) 0

  one_table : (k : ℕ) → rows_from (table_words rows words ++ rest) 0 (rows + k) ≡ rows_from words 0 rows ++ rows_from rest 0 k
  one_table k =
      rows_split (own ++ rest) rows 0 k
      ∙ ap₂ (λ (x y : List Row). x ++ y) (rows_cong rows (own ++ rest) words 0 0 before) (rows_cong k (own ++ rest) rest (0 + rows) 0 (λ n b. behind n))

-- three tables, stored where there is a place for all
module _ (l : List ℕ) (a b c : ℕ) (x y z : List ℕ) (hx : 2 * a ≤ length x) (hy : 2 * b ≤ length y) (hz : 2 * c ≤ length z) where
  abbrev all : List ℕ
  all = table_words a x ++ (table_words b y ++ table_words c z)

  all_long : length all ≡ 2 * (a + b + c)
  all_long =
      length-append (table_words a x) (table_words b y ++ table_words c z)
      ∙ omega (arith, length-append (table_words b y) (table_words c z), length-take-le (2 * a) x hx, length-take-le (2 * b) y hy, length-take-le (2 * c) z hz)

  three-tables : 2 * (a + b + c) ≤ length l → rows_from (sets l 0 all) 0 (a + b + c) ≡ rows_from x 0 a ++ (rows_from y 0 b ++ rows_from z 0 c)
  three-tables few =
      let rest = drop (0 + length all) l in
      let m : a + b + c ≡ a + (b + (c + 0)) = omega arith in
      ap₂ (λ (w : List ℕ) (k : ℕ). rows_from w 0 k)
      (sets-eq all l 0 (omega (arith, all_long)) ∙ append_assoc (table_words a x) (table_words b y ++ table_words c z) rest
      ∙ ap (λ (w : List ℕ). table_words a x ++ w) (append_assoc (table_words b y) (table_words c z) rest))
      m
      ∙ one_table a x (table_words b y ++ (table_words c z ++ rest)) hx (b + (c + 0))
      ∙ ap (λ (rs : List Row). rows_from x 0 a ++ rs)
      (one_table b y (table_words c z ++ rest) hy (c + 0)
      ∙ ap (λ (rs : List Row). rows_from y 0 b ++ rs) (one_table c z rest hz 0 ∙ append-nil (rows_from z 0 c)))

pub gathered-length : (d : Dimensions) (tables : Tables) → length (gathered d tables) ≡ 768
unfolding gathered
gathered-length d tables = length-sets {A = ℕ} (replicate 768 0) 0 (all_words d tables) ∙ length-replicate {A = ℕ} 768 0

module _ (d : Dimensions) (tables : Tables) (e : outcome (table_checks d tables) ≡ Ok tt) where
  known : Accepted d tables
  known = accepted d tables e

  -- the gathered words of accepted tables begin with the rows of all three: the left ones, the right ones, the public ones
  pub gathered-rows : rows_from (gathered d tables) 0 (row_count d) ≡ rows_of d tables
  unfolding gathered
  gathered-rows =
      three-tables (replicate 768 0) d.left d.right d.public tables.left tables.right tables.public
      known.left-length known.right_length known.public_length (omega (arith, known.size.rows-most, length-replicate {A = ℕ} 768 0))

  -- and so their index is the tables'
  pub gathered-index : index_of (rows_from (gathered d tables) 0 (min (row_count d) 384)) ≡ index_of (rows_of d tables)
  gathered-index =
      let m : min (row_count d) 384 ≡ row_count d = omega (arith, known.size.rows-most) in
      ap (λ (k : ℕ). index_of (rows_from (gathered d tables) 0 k)) m ∙ ap index_of gathered-rows
