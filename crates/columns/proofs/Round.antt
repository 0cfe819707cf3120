-- Round trips. The planes of an accepted table have no stray bit, so they are taken back; and planes that are taken are those of the rows
-- that they give.
use mathlib.Core.Path.{◌≡◌, refl, sym, ap, ap₂, ◌∙◌, subst}
use mathlib.Core.Bool.{Bool, true, false, not}
use mathlib.Core.List.{List}
use Prim.Native.Nat.{ℕ, zero, suc, ◌+◌, ◌-◌, ◌*◌, ◌/◌, ◌%◌, ◌^◌, ◌≤◌, ◌<◌}
use native.Mathlib.Nat.{zero-add, lt_of_lt_of_le, le_of_eq, pow-succ'}
use native.Mathlib.Omega.{arith}
use lib.Dec.{ltb}
use lib.Pow.{pow_pos, pow_mono}
use lib.ListN.{length, get_or, take, length-append, get_or-eq_default}
use lib.Seq.{ext_get_or, get_or-take, length-take-le}
use borrow.Author.Tests.{lt-ltb, ltb-true, ltb-false, not-false}
use Rattle.words.specs.Booleans.{digit}
use Rattle.words.specs.Sets.{bit, word_of}
use Rattle.words.proofs.Truth.{on}
use Rattle.words.proofs.Upto.{any_none}
use Rattle.words.proofs.Last.{any_false}
use Rattle.words.proofs.Bits.{bit-zero}
use Rattle.words.proofs.Operations.{bit_high}
use Rattle.words.proofs.WordOf.{word_of_bit, word_of_cong}
use Rattle.squares.specs.Squares.{tabulate, column, sign_words, square_at, plane_at}
use Rattle.columns.specs.Planes.{flat, squares_from, square_count, planes_of, row_word, table_from}
use Rattle.columns.specs.Columns.{room, stray}
use Rattle.squares.proofs.Tabulating.{length-tabulate, at-tabulate}
use Rattle.columns.proofs.Inverse.{bit-column, at_squares}
use Rattle.columns.proofs.Storing.{length-square}

-- a word whose bits from k on are missing is below 2 ^ k
pub word_of_width : (p : ℕ → Bool) (n k : ℕ) → ((i : ℕ) → i < n → k ≤ i → p i ≡ false) → word_of p n < 2 ^ k
unfolding word_of
word_of_width p zero k h = pow_pos k
word_of_width p (suc n) zero h =
    let e : digit (p zero) ≡ 0 = ap digit (h zero (omega arith) (omega arith)) in
    omega (arith, word_of_width (λ i. p (suc i)) n zero (λ i b c. h (suc i) (omega arith) (omega arith)))
word_of_width p (suc n) (suc k) h =
    omega (arith, digit-small (p zero), word_of_width (λ i. p (suc i)) n k (λ i b c. h (suc i) (omega arith) (omega arith)), double k)
  where
    digit-small : (b : Bool) → digit b ≤ 1
    digit-small true = omega arith
    digit-small false = omega arith

    double : (k : ℕ) → 2 ^ suc k ≡ 2 * 2 ^ k
    double k = pow-succ' 2 k

-- k squares have 64 words each
pub length_squares : (table : List ℕ) (s k : ℕ) → length (squares_from table s k) ≡ 64 * k
unfolding squares_from
length_squares table s zero = refl
length_squares table s (suc k) = length-append (flat (square_at table s)) (squares_from table (suc s) k)
    ∙ omega (arith, length-square table s, length_squares table (suc s) k)

-- word q of the planes of a table
module _ (table : List ℕ) (k : ℕ) where
  plane_word : (q : ℕ) → q < 64 * k → get_or (squares_from table 0 k) q 0 ≡ column (sign_words table (q / 64) (q % 64 / 32)) (q % 32)
  plane_word q h =
      let e : 64 * (q / 64) + 32 * (q % 64 / 32) + q % 32 ≡ q = omega arith in
      ap (λ (x : ℕ). get_or (squares_from table 0 k) x 0) (sym e)
      ∙ at_squares table 0 k (q / 64) (q % 64 / 32) (q % 32) (omega arith) (omega arith) (omega arith)
      ∙ ap (λ (x : ℕ). column (sign_words table x (q % 64 / 32)) (q % 32)) (zero-add (q / 64))

-- the planes of a table of n variables have no stray bit
pub planes_clean : (n rows : ℕ) (table : List ℕ) → 2 * rows ≤ length table → ((q : ℕ) → get_or (take (2 * rows) table) q 0 < 2 ^ n)
    → stray n rows (planes_of rows table) ≡ false
unfolding stray planes_of column
planes_clean n rows table l small =
    any_false _ (64 * square_count rows) (λ q h. ap not (lt-ltb (get_or (squares_from front 0 (square_count rows)) q 0) (2 ^ room n rows q)
    (word_small q h)))
  where
    front : List ℕ
    front = take (2 * rows) table

    -- bit j of the word belongs to row 32 (q / 64) + j
    no_bit : (q i j : ℕ) → j < 32 → i ≡ q % 32 → room n rows q ≤ j → bit (get_or (sign_words front (q / 64) (q % 64 / 32)) j 0) i ≡ false
    no_bit q i j b e h =
        ap (λ (x : ℕ). bit x i) (at-tabulate (λ j. get_or front (64 * (q / 64) + 2 * j + q % 64 / 32) 0) 0 32 j b
        ∙ ap (λ (x : ℕ). get_or front (64 * (q / 64) + 2 * x + q % 64 / 32) 0) (zero-add j))
        ∙ on (ltb (q % 32) n)
        (λ c. ap (λ (x : ℕ). bit x i) (get_or-eq_default front 0 (past q j b c h)) ∙ bit-zero i)
        (λ c. bit_high n (get_or front (64 * (q / 64) + 2 * j + q % 64 / 32) 0) i (small _) (subst (λ (x : ℕ). n ≤ x) (sym e) (ltb-false (q % 32) n c)))
      where
        past : (q j : ℕ) → j < 32 → ltb (q % 32) n ≡ true → room n rows q ≤ j → length front ≤ 64 * (q / 64) + 2 * j + q % 64 / 32
        past q j b c h =
            on (ltb (rows - 32 * (q / 64)) 32)
            (λ d. let r : rows - 32 * (q / 64) ≤ j = (rw (c, d) at h) in omega (arith, length-take-le (2 * rows) table l))
            (λ d. let r : 32 ≤ j = (rw (c, d) at h) in absurd (omega arith))

    word_small : (q : ℕ) → q < 64 * square_count rows → get_or (squares_from front 0 (square_count rows)) q 0 < 2 ^ room n rows q
    word_small q h = rw (plane_word front (square_count rows) q h) (word_of_width _ 32 (room n rows q) (λ j b c. no_bit q (q % 32) j b refl c))

-- planes without a stray bit are those of the rows that they give
pub planes_back : (n rows : ℕ) (planes : List ℕ) → 64 * square_count rows ≤ length planes → stray n rows planes ≡ false
    → planes_of rows (table_from rows planes) ≡ take (64 * square_count rows) planes
unfolding stray planes_of table_from column row_word
planes_back n rows planes l clean =
    ext_get_or 0 (squares_from front 0 (square_count rows)) (take (64 * square_count rows) planes)
    (length_squares front 0 (square_count rows) ∙ sym (length-take-le (64 * square_count rows) planes l))
    (λ q b.
    let h : q < 64 * square_count rows = subst (λ (x : ℕ). q < x) (length_squares front 0 (square_count rows)) b in
    plane_word front (square_count rows) q h
    ∙ word_of_cong (λ j. bit (get_or (sign_words front (q / 64) (q % 64 / 32)) j 0) (q % 32)) (bit (get_or planes q 0)) 32
    (λ j c. ap (λ (x : ℕ). bit x (q % 32)) (at-tabulate (λ j. get_or front (64 * (q / 64) + 2 * j + q % 64 / 32) 0) 0 32 j c
    ∙ ap (λ (x : ℕ). get_or front (64 * (q / 64) + 2 * x + q % 64 / 32) 0) (zero-add j)) ∙ same_bit q j h c)
    ∙ word_of_bit (get_or planes q 0) 32 (lt_of_lt_of_le (held q h) (pow_mono (room_most q)))
    ∙ sym (get_or-take (64 * square_count rows) planes q 0 h))
  where
    front : List ℕ
    front = take (2 * rows) (tabulate (row_word planes) 0 (2 * rows))

    length-rows : length (tabulate (row_word planes) 0 (2 * rows)) ≡ 2 * rows
    length-rows = length-tabulate (row_word planes) 0 (2 * rows)

    room_most : (q : ℕ) → room n rows q ≤ 32
    room_most q =
        on (ltb (q % 32) n)
        (λ a. on (ltb (rows - 32 * (q / 64)) 32) (λ b. rw (a, b) (omega (arith, ltb-true (rows - 32 * (q / 64)) 32 b)))
        (λ b. rw (a, b) (omega arith)))
        (λ a. rw a (omega arith))

    room-rows : (q : ℕ) → room n rows q ≤ rows - 32 * (q / 64)
    room-rows q =
        on (ltb (q % 32) n)
        (λ a. on (ltb (rows - 32 * (q / 64)) 32) (λ b. rw (a, b) (omega arith)) (λ b. rw (a, b) (ltb-false (rows - 32 * (q / 64)) 32 b)))
        (λ a. rw a (omega arith))

    -- no stray bit
    held : (q : ℕ) → q < 64 * square_count rows → get_or planes q 0 < 2 ^ room n rows q
    held q h = ltb-true _ _ (not-false (ltb (get_or planes q 0) (2 ^ room n rows q))
        (any_none (λ q. not (ltb (get_or planes q 0) (2 ^ room n rows q))) (64 * square_count rows) clean q h))

    -- bit j of the word and bit q % 32 of the row's word
    same_bit : (q j : ℕ) → q < 64 * square_count rows → j < 32
        → bit (get_or front (64 * (q / 64) + 2 * j + q % 64 / 32) 0) (q % 32) ≡ bit (get_or planes q 0) j
    same_bit q j h b =
        on (ltb (64 * (q / 64) + 2 * j + q % 64 / 32) (2 * rows))
        (λ e. let x = ltb-true (64 * (q / 64) + 2 * j + q % 64 / 32) (2 * rows) e in
        ap (λ (w : ℕ). bit w (q % 32))
        (get_or-take (2 * rows) (tabulate (row_word planes) 0 (2 * rows)) (64 * (q / 64) + 2 * j + q % 64 / 32) 0 x
        ∙ at-tabulate (row_word planes) 0 (2 * rows) (64 * (q / 64) + 2 * j + q % 64 / 32) x
        ∙ ap (row_word planes) (zero-add (64 * (q / 64) + 2 * j + q % 64 / 32)))
        ∙ row-bit q j b)
        (λ e. let x = ltb-false (64 * (q / 64) + 2 * j + q % 64 / 32) (2 * rows) e in
        ap (λ (w : ℕ). bit w (q % 32)) (get_or-eq_default front 0
        (subst (λ (k : ℕ). k ≤ 64 * (q / 64) + 2 * j + q % 64 / 32) (sym (length-take-le (2 * rows) _ (le_of_eq (sym length-rows)))) x))
        ∙ bit-zero (q % 32)
        ∙ sym (bit_high (room n rows q) (get_or planes q 0) j (held q h) (omega (arith, room-rows q))))
      where
        row-bit : (q j : ℕ) → j < 32 → bit (row_word planes (64 * (q / 64) + 2 * j + q % 64 / 32)) (q % 32) ≡ bit (get_or planes q 0) j
        row-bit q j b =
            let v : ℕ = 64 * (q / 64) + 2 * j + q % 64 / 32 in
            let a : v / 64 ≡ q / 64 = omega arith in
            let c : v % 2 ≡ q % 64 / 32 = omega arith in
            let d : v % 64 / 2 ≡ j = omega arith in
            let e : 64 * (q / 64) + 32 * (q % 64 / 32) + q % 32 ≡ q = omega arith in
            ap (λ (x : ℕ). bit (column (plane_at planes x (v % 2)) (v % 64 / 2)) (q % 32)) a
            ∙ ap₂ (λ (x y : ℕ). bit (column (plane_at planes (q / 64) x) y) (q % 32)) c d
            ∙ bit-column (plane_at planes (q / 64) (q % 64 / 32)) j (q % 32) (omega arith)
            ∙ ap (λ (x : ℕ). bit x j) (at-tabulate (λ i. get_or planes (64 * (q / 64) + 32 * (q % 64 / 32) + i) 0) 0 32 (q % 32) (omega arith)
            ∙ ap (λ (x : ℕ). get_or planes (64 * (q / 64) + 32 * (q % 64 / 32) + x) 0) (zero-add (q % 32)) ∙ ap (λ (x : ℕ). get_or planes x 0) e)
