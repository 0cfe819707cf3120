-- Counts stored row after row: a part that holds a table's counts, what is stored after them, and three tables, one after the other, which give
-- those of all rows, at the width of the tables. By induction on a table's rows.
use mathlib.Core.Path.{◌≡◌, refl, sym, ap, ap₂, ◌∙◌}
use mathlib.Core.List.{List, ◌∷◌, ◌++◌, map-append, append_assoc}
use Prim.Native.Nat.{ℕ, zero, suc, ◌+◌, ◌*◌, ◌^◌, ◌≤◌, ◌<◌}
use native.Mathlib.Nat.{add-zero}
use native.Mathlib.Omega.{arith}
use lib.ListN.{length, get_or, set, take, drop, length-map}
use lib.Seq.{sets, sets-eq}
use borrow.Rule.Slice.PartMut.{put_mid}
use Rattle.std.proofs.lemmas.List.{get_or-map, ext_get_or}
use Rattle.std.proofs.lemmas.List.Edits.{paste_all}
use Rattle.std.proofs.lemmas.Slice.{put_mid-paste}
use Rattle.words.specs.declared.Row.{Row}
use Rattle.dimensions.specs.declared.Dimensions.{Dimensions}
use Rattle.tables.specs.Tables.{Tables}
use Rattle.tables.specs.Rows.{row_at, rows_from, rows_of, rows_of_public, free_literals, empty}
use Rattle.tables.proofs.Numbering.{table-length, row_from}
use Rattle.tables.proofs.Rows.{literals_width}
use Rattle.tables.proofs.Accepted.{Accepted}
use Rattle.free_counts.specs.Counts.{free_counts_of}

-- ---- one table

-- a part that holds the counts of a table's rows, between the bytes around it
module _ (words : List ℕ) (rows t f : ℕ) where
  abbrev counts : List ℕ
  counts = free_counts_of 32 (rows_from words 0 rows) t f

  counts-length : length counts ≡ rows
  counts-length = length-map (rows_from words 0 rows) (λ r. free_literals 32 r t f) ∙ table-length words 0 rows

  count_at : (i : ℕ) → i < rows → get_or counts i 0 ≡ free_literals 32 (row_at words i) t f
  count_at i b =
      let size : i < length (rows_from words 0 rows) = omega (arith, table-length words 0 rows) in
      let e : 0 + i ≡ i = omega arith in
      get_or-map (λ r. free_literals 32 r t f) (rows_from words 0 rows) i empty 0 size
      ∙ ap (λ (r : Row). free_literals 32 r t f) (row_from words rows 0 i b ∙ ap (row_at words) e)

  pub counted-part : (before part : List ℕ) (at k : ℕ) → k ≡ rows → length part ≡ rows → at + rows ≤ length before
      → ((i : ℕ) → i < rows → get_or part i 0 ≡ free_literals 32 (row_at words i) t f)
      → put_mid at k before part ≡ sets before at counts
  counted-part before part at k e size room each =
      let same : part ≡ counts = ext_get_or 0 part counts (size ∙ sym counts-length) (λ i b. let h : i < rows = omega arith in each i h ∙ sym (count_at i h)) in
      put_mid-paste at k before part counts rows same (sym e) (sym counts-length)
      ∙ paste_all before at counts rows (sym counts-length)
      ∙ ap (λ (n : ℕ). take at before ++ (counts ++ drop (at + n) before)) (sym counts-length)
      ∙ sym (sets-eq counts before at (omega (arith, counts-length)) ∙ append_assoc (take at before) counts _)

-- what is stored after a table's counts
counts-then : (n t f : ℕ) (words : List ℕ) (k j : ℕ) (l : List ℕ) (at : ℕ) (rest : List ℕ)
    → sets (sets l at (free_counts_of n (rows_from words j k) t f)) (at + k) rest ≡ sets l at (free_counts_of n (rows_from words j k) t f ++ rest)
counts-then n t f words zero j l at rest = ap (λ (p : ℕ). sets l p rest) (add-zero at)
counts-then n t f words (suc k) j l at rest =
    let x = free_literals n (row_at words j) t f in
    let p : at + suc k ≡ suc at + k = omega arith in
    ap (λ (y : ℕ). sets (sets l at (free_counts_of n (rows_from words j (suc k)) t f)) y rest) p
    ∙ counts-then n t f words k (suc j) (set l at x) (suc at) rest

-- a table of n variables has the same counts at every greater width
counts_width : (n m t f : ℕ) (words : List ℕ) (k j : ℕ) → n ≤ m → ((i : ℕ) → i < 2 * (j + k) → get_or words i 0 < 2 ^ n)
    → free_counts_of m (rows_from words j k) t f ≡ free_counts_of n (rows_from words j k) t f
counts_width n m t f words zero j h low = refl
counts_width n m t f words (suc k) j h low =
    ap₂ (λ (x : ℕ) (xs : List ℕ). x ∷ xs)
    (literals_width n m (row_at words j) t f h (low (2 * j) (omega arith)) (low (2 * j + 1) (omega arith)))
    (counts_width n m t f words k (suc j) h (λ i b. low i (omega arith)))

-- ---- three tables

module _ (d : Dimensions) (tables : Tables) (known : Accepted d tables) (t f : ℕ) where
  abbrev ls : List Row
  ls = rows_from tables.left 0 d.left

  abbrev rs : List Row
  rs = rows_from tables.right 0 d.right

  abbrev ps : List Row
  ps = rows_of_public d tables

  table_width : (words : List ℕ) (k : ℕ) → ((i : ℕ) → i < 2 * k → get_or words i 0 < 2 ^ d.n)
      → free_counts_of 32 (rows_from words 0 k) t f ≡ free_counts_of d.n (rows_from words 0 k) t f
  table_width words k low = counts_width d.n 32 t f words k 0 known.size.n-most (λ i b. low i (omega arith))

  all-counts : free_counts_of 32 ls t f ++ (free_counts_of 32 rs t f ++ free_counts_of 32 ps t f) ≡ free_counts_of d.n (rows_of d tables) t f
  all-counts =
      let counted : Row → ℕ = λ r. free_literals d.n r t f in
      ap₂ (λ (x y : List ℕ). x ++ y) (table_width tables.left d.left known.left-words)
      (ap₂ (λ (x y : List ℕ). x ++ y) (table_width tables.right d.right known.right_words)
      (table_width tables.public d.public known.public_words)
      ∙ sym (map-append counted rs ps))
      ∙ sym (map-append counted ls (rs ++ ps))

  pub tables-counted : (b b₁ b₂ b₃ : List ℕ) (p q : ℕ)
      → b₁ ≡ sets b 0 (free_counts_of 32 ls t f) → p ≡ 0 + d.left
      → b₂ ≡ sets b₁ p (free_counts_of 32 rs t f) → q ≡ p + d.right
      → b₃ ≡ sets b₂ q (free_counts_of 32 ps t f)
      → b₃ ≡ sets b 0 (free_counts_of d.n (rows_of d tables) t f)
  tables-counted b b₁ b₂ b₃ p q e₁ h₁ e₂ h₂ e₃ =
      let L = free_counts_of 32 ls t f in
      let R = free_counts_of 32 rs t f in
      let P = free_counts_of 32 ps t f in
      e₃ ∙ ap₂ (λ (x : List ℕ) (y : ℕ). sets x y P) e₂ h₂
      ∙ counts-then 32 t f tables.right d.right 0 b₁ p P
      ∙ ap₂ (λ (x : List ℕ) (y : ℕ). sets x y (R ++ P)) e₁ h₁
      ∙ counts-then 32 t f tables.left d.left 0 b 0 (R ++ P)
      ∙ ap (sets b 0) all-counts
