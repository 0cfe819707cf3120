-- Planes turned into rows again are the table that they were made from. Word by word, and bit by bit.
use mathlib.Core.Path.{◌≡◌, sym, ap, ◌∙◌, subst}
use mathlib.Core.List.{List, [], ◌++◌}
use Prim.Native.Nat.{ℕ, zero, suc, ◌+◌, ◌*◌, ◌/◌, ◌%◌, ◌^◌, ◌≤◌, ◌<◌}
use native.Mathlib.Nat.{add-zero, zero-add}
use native.Mathlib.Omega.{arith}
use lib.ListN.{length, get_or, take, get_or-append}
use lib.Seq.{ext_get_or, get_or-append-add, length-take-le}
use Rattle.words.specs.Sets.{bit}
use Rattle.words.proofs.WordOf.{bit_word_of, word_of_bit, word_of_cong}
use Rattle.squares.specs.Squares.{tabulate, column, transposed, sign_words, square_at, plane_at}
use Rattle.columns.specs.Planes.{flat, squares_from, square_count, planes_of, row_word, table_from}
use Rattle.squares.proofs.Tabulating.{length-tabulate, at-tabulate}
use Rattle.columns.proofs.Storing.{length-square}

-- bit j of column i is bit i of word j
pub bit-column : (words : List ℕ) (i j : ℕ) → j < 32 → bit (column words i) j ≡ bit (get_or words j 0) i
unfolding column
bit-column words i j h = bit_word_of (λ j. bit (get_or words j 0) i) 32 j h

-- ---- where a word is

-- in a square
at-flat : (table : List ℕ) (s sign i : ℕ) → sign < 2 → i < 32 → get_or (flat (square_at table s)) (32 * sign + i) 0 ≡ column (sign_words table s sign) i
at-flat table s zero i h b =
    let l = length-tabulate (column (sign_words table s 0)) 0 32 in
    ap (λ (k : ℕ). get_or (flat (square_at table s)) k 0) (zero-add i)
    ∙ get_or-append (transposed (sign_words table s 0)) (transposed (sign_words table s 1) ++ []) 0 i (subst (λ (k : ℕ). i < k) (sym l) b)
    ∙ at-tabulate (column (sign_words table s 0)) 0 32 i b
    ∙ ap (column (sign_words table s 0)) (zero-add i)
at-flat table s (suc zero) i h b =
    let l = length-tabulate (column (sign_words table s 0)) 0 32 in
    let m = length-tabulate (column (sign_words table s 1)) 0 32 in
    ap (λ (k : ℕ). get_or (flat (square_at table s)) (k + i) 0) (sym l)
    ∙ get_or-append-add (transposed (sign_words table s 0)) (transposed (sign_words table s 1) ++ []) i 0
    ∙ get_or-append (transposed (sign_words table s 1)) [] 0 i (subst (λ (k : ℕ). i < k) (sym m) b)
    ∙ at-tabulate (column (sign_words table s 1)) 0 32 i b
    ∙ ap (column (sign_words table s 1)) (zero-add i)
at-flat table s (suc (suc sign)) i h b = absurd (omega arith)

-- in k squares from s on
pub at_squares : (table : List ℕ) (s k r sign i : ℕ) → r < k → sign < 2 → i < 32
    → get_or (squares_from table s k) (64 * r + 32 * sign + i) 0 ≡ column (sign_words table (s + r) sign) i
unfolding squares_from
at_squares table s zero r sign i a h b = absurd (omega arith)
at_squares table s (suc k) zero sign i a h b =
    let e : 64 * 0 + 32 * sign + i ≡ 32 * sign + i = omega arith in
    let l : 32 * sign + i < length (flat (square_at table s)) = subst (λ (k : ℕ). 32 * sign + i < k) (sym (length-square table s)) (omega arith) in
    ap (λ (x : ℕ). get_or (squares_from table s (suc k)) x 0) e
    ∙ get_or-append (flat (square_at table s)) (squares_from table (suc s) k) 0 (32 * sign + i) l
    ∙ at-flat table s sign i h b
    ∙ ap (λ (x : ℕ). column (sign_words table x sign) i) (sym (add-zero s))
at_squares table s (suc k) (suc r) sign i a h b =
    let e : 64 * suc r + 32 * sign + i ≡ 64 + (64 * r + 32 * sign + i) = omega arith in
    ap (λ (x : ℕ). get_or (squares_from table s (suc k)) x 0) (e ∙ ap (λ (x : ℕ). x + (64 * r + 32 * sign + i)) (sym (length-square table s)))
    ∙ get_or-append-add (flat (square_at table s)) (squares_from table (suc s) k) (64 * r + 32 * sign + i) 0
    ∙ at_squares table (suc s) k r sign i (omega arith) h b
    ∙ ap (λ (x : ℕ). column (sign_words table x sign) i) (sym (step s r))
  where
    step : (s r : ℕ) → s + suc r ≡ suc s + r
    step s r = omega arith

-- ---- a word and back

module _ (table : List ℕ) (small : (q : ℕ) → get_or table q 0 < 2 ^ 32) (k : ℕ) where
  word_back : (q : ℕ) → q < 64 * k → row_word (squares_from table 0 k) q ≡ get_or table q 0
  unfolding row_word column
  word_back q h =
      let s : ℕ = q / 64 in
      let sign : ℕ = q % 2 in
      let j : ℕ = q % 64 / 2 in
      let planes = squares_from table 0 k in
      let hs : s < k = omega arith in
      let hg : sign < 2 = omega arith in
      let hj : j < 32 = omega arith in
      let place : 64 * s + 2 * j + sign ≡ q = omega arith in
      word_of_cong (λ i. bit (get_or (plane_at planes s sign) i 0) j) (λ i. bit (get_or table q 0) i) 32
      (λ i b.
      ap (λ (x : ℕ). bit x j) (at-tabulate (λ i. get_or planes (64 * s + 32 * sign + i) 0) 0 32 i b
      ∙ ap (λ (x : ℕ). get_or planes (64 * s + 32 * sign + x) 0) (zero-add i) ∙ at_squares table 0 k s sign i hs hg b
      ∙ ap (λ (x : ℕ). column (sign_words table x sign) i) (zero-add s))
      ∙ bit-column (sign_words table s sign) i j hj
      ∙ ap (λ (x : ℕ). bit x i) (at-tabulate (λ j. get_or table (64 * s + 2 * j + sign) 0) 0 32 j hj
      ∙ ap (λ (x : ℕ). get_or table (64 * s + 2 * x + sign) 0) (zero-add j) ∙ ap (λ (x : ℕ). get_or table x 0) place))
      ∙ word_of_bit (get_or table q 0) 32 (small q)

-- ---- the whole table

-- the planes of a table give its rows back, whatever words they hold
pub table-back : (rows : ℕ) (table : List ℕ) → 2 * rows ≤ length table → ((q : ℕ) → get_or (take (2 * rows) table) q 0 < 2 ^ 32)
    → table_from rows (planes_of rows table) ≡ take (2 * rows) table
unfolding table_from planes_of
table-back rows table l small =
    let front = take (2 * rows) table in
    let n = length-tabulate (row_word (squares_from front 0 (square_count rows))) 0 (2 * rows) in
    ext_get_or 0 (tabulate (row_word (squares_from front 0 (square_count rows))) 0 (2 * rows)) front (n ∙ sym (length-take-le (2 * rows) table l))
    (λ q b.
    let h : q < 2 * rows = subst (λ (x : ℕ). q < x) n b in
    at-tabulate (row_word (squares_from front 0 (square_count rows))) 0 (2 * rows) q h
    ∙ ap (row_word (squares_from front 0 (square_count rows))) (zero-add q)
    ∙ word_back front small (square_count rows) q (omega arith))
