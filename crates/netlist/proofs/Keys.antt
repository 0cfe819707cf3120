-- The sections digit, key, pair, node, greatest and split: a row's key as a number is its rank, then the number of its lowest free variable,
-- then its sign; the tree finds the greatest key, and the decoder sets its variable. Each section by its law on digits.
use mathlib.Core.Path.{◌≡◌, ap, ap₂, ◌∙◌}
use mathlib.Core.Bool.{Bool, true, false, ◌&&◌, cond}
use mathlib.Core.List.{List}
use Prim.Native.Nat.{ℕ, suc, ◌+◌, ◌*◌, ◌-◌, ◌^◌, ◌≤◌, ◌<◌}
use native.Mathlib.Nat.{le_refl, pow-suc, zero-lt-suc}
use native.Mathlib.Omega.{arith}
use lib.Dec.{eqb, ltb}
use lib.ListN.{length}
use borrow.Author.Tests.{lt-ltb, le-ltb}
use Rattle.words.specs.declared.Row.{Row}
use Rattle.words.specs.Booleans.{◌⊕◌, digit}
use Rattle.words.specs.Sets.{bit, lowest, word_of}
use Rattle.words.proofs.WordOf.{word_of_lt, word_of_bit, word_of_cong}
use Rattle.tables.specs.Rows.{satisfied, free_in}
use Rattle.wires.proofs.Addresses.{row_of}
use Rattle.netlist.proofs.Digits.{raised, word_of_last, compared, kept_of}
use Rattle.netlist.proofs.Tournament.{Won, won}
use Rattle.netlist.proofs.Thresholds.{any_below, index-digit}
use Rattle.netlist.proofs.Decoder.{at_leaf, decoded, picked-is}
use Rattle.netlist.proofs.Equations.{Wires, OnState, item_of}
use Rattle.netlist.proofs.RowWires.{some-row}

-- ---- comparing keys: two digits of rank above x or y

abbrev pub ranked : Bool → Bool → ℕ → ℕ → ℕ
ranked high low x w = x + raised low w + raised high (w * 2)

abbrev pub rank_of : Bool → Bool → ℕ
rank_of high low = digit low + 2 * digit high

pub rank_le : (h l h' l' : Bool) (x y w : ℕ) → x < w → y < w → ranked h l x w ≤ ranked h' l' y w → rank_of h l ≤ rank_of h' l'
rank_le true true true true x y w p q e = omega arith
rank_le true true true false x y w p q e = absurd (omega arith)
rank_le true true false true x y w p q e = absurd (omega arith)
rank_le true true false false x y w p q e = absurd (omega arith)
rank_le true false true l' x y w p q e = omega arith
rank_le true false false true x y w p q e = absurd (omega arith)
rank_le true false false false x y w p q e = absurd (omega arith)
rank_le false true true l' x y w p q e = omega arith
rank_le false true false true x y w p q e = omega arith
rank_le false true false false x y w p q e = absurd (omega arith)
rank_le false false h' l' x y w p q e = omega arith

module _ (n b : ℕ) (rows : List Row) (t f : ℕ) (w : Wires) (on_state : OnState n b rows t f w) where
  abbrev m : ℕ
  m = length rows

  -- how many digits a key has
  abbrev digits : ℕ
  digits = suc (suc (suc b))

  -- below the rank
  abbrev pub below : ℕ → ℕ
  below j = word_of (w.key j) (suc b)

  pub below-lt : (j : ℕ) → below j < 2 ^ suc b
  below-lt j = word_of_lt (w.key j) (suc b)

  pub key_number : (j : ℕ) → j < m → word_of (w.key j) digits ≡ ranked (w.high j) (w.low j) (below j) (2 ^ suc b)
  key_number j h =
      word_of_last (w.key j) (suc (suc b))
      ∙ ap₂ (λ (x y : ℕ). x + y)
      (word_of_last (w.key j) (suc b) ∙ ap (λ (x : Bool). below j + raised x (2 ^ suc b)) (on_state.cells.key_low_lem j h))
      (ap₂ raised (on_state.cells.key_high_lem j h) (pow-suc 2 (suc b)))

  -- ---- the number of the lowest free variable

  module _ (j : ℕ) (h : j < m) (e : satisfied n (row_of rows j) t f ≡ false) where
    abbrev v : ℕ
    v = lowest (λ i. free_in (row_of rows j) t f i) n

    some_below : (i : ℕ) → i ≤ n → w.some j i ≡ ltb v i
    some_below i l = some-row n b rows t f w on_state j h e i l ∙ any_below (λ i. free_in (row_of rows j) t f i) n i l

    pub variable_number : v < n → word_of (λ d. w.key j (suc d)) b ≡ n - 1 - v
    variable_number l =
        let s : v + (n - 1 - v) + 1 ≡ n = omega arith in
        word_of_cong (λ d. w.key j (suc d)) (λ d. bit (n - 1 - v) d) b (λ d k.
        on_state.cells.key_digit_lem j d h k
        ∙ index-digit n v (n - 1 - v) s (w.some j) some_below d (w.sum d j) (on_state.cells.sum-zero d j k h) (λ i g. on_state.cells.sum-suc d j i k h g))
        ∙ word_of_bit (n - 1 - v) b (omega (arith, on_state.room))

    pub below-number : v < n → below j ≡ digit (w.sign j n) + 2 * (n - 1 - v)
    unfolding word_of
    below-number l = ap₂ (λ (x y : ℕ). x + 2 * y) (ap digit (on_state.cells.key_sign_lem j h)) (variable_number l)

  -- ---- the greatest key

  abbrev item : ℕ → ℕ → Bool
  item t i = item_of m w t i

  leaf : (j i : ℕ) → j < m → i < digits → item j i ≡ w.key j i
  leaf j i h l = ap (λ (c : Bool). cond c (w.key j i) (w.left (j - m) i ⊕ (w.keep (j - m) && w.differs (j - m) i))) (lt-ltb j m h)

  kept-item : (s i : ℕ) → suc s < m → i < digits → item (m + s) i ≡ kept_of (w.keep s) (item (2 * s) i) (item (2 * s + 1) i)
  kept-item s i h l =
      let e : m + s - m ≡ s = omega arith in
      ap (λ (c : Bool). cond c (w.key (m + s) i) (w.left (m + s - m) i ⊕ (w.keep (m + s - m) && w.differs (m + s - m) i))) (le-ltb (m + s) m (omega arith))
      ∙ ap (λ (k : ℕ). w.left k i ⊕ (w.keep k && w.differs k i)) e
      ∙ ap₂ (λ (x y : Bool). x ⊕ (w.keep s && y)) (on_state.cells.left_is s i h l) (on_state.cells.differs-is s i h l)

  right_greater : (s : ℕ) → suc s < m → w.keep s ≡ ltb (word_of (item (2 * s)) digits) (word_of (item (2 * s + 1)) digits)
  right_greater s h =
      on_state.cells.keep-is s h
      ∙ compared (item (2 * s)) (item (2 * s + 1)) (w.greater s) digits (on_state.cells.greater_zero s h)
      (λ i l. on_state.cells.greater_suc s i h l) digits (le_refl digits)

  pub winner : Won w.key digits m w.greatest
  winner =
      let last = won w.key item w.keep digits m leaf kept-item right_greater on_state.a-row in
      let same : word_of w.greatest digits ≡ word_of (item (2 * m - 2)) digits =
      word_of_cong w.greatest (item (2 * m - 2)) digits on_state.cells.greatest-is in
      record {
        row = last.row;
        low = last.low;
        is_key = λ i l. on_state.cells.greatest-is i l ∙ last.is_key i l;
        most = λ j l. omega (arith, same, last.most j l);
      }

  -- its row
  abbrev pub k : ℕ
  k = winner.row

  pub most : (j : ℕ) → j < m → ranked (w.high j) (w.low j) (below j) (2 ^ suc b) ≤ ranked (w.high k) (w.low k) (below k) (2 ^ suc b)
  most j h =
      let same : word_of w.greatest digits ≡ word_of (w.key k) digits = word_of_cong w.greatest (w.key k) digits winner.is_key in
      omega (arith, winner.most j h, same, key_number j h, key_number k winner.low)

  pub best-high : w.greatest (suc (suc b)) ≡ w.high k
  best-high = winner.is_key (suc (suc b)) (le_refl digits) ∙ on_state.cells.key_high_lem k winner.low

  pub best-low : w.greatest (suc b) ≡ w.low k
  best-low = winner.is_key (suc b) (omega arith) ∙ on_state.cells.key_low_lem k winner.low

  pub best-sign : w.greatest 0 ≡ w.sign k n
  best-sign = winner.is_key 0 (zero-lt-suc (suc (suc b))) ∙ on_state.cells.key_sign_lem k winner.low

  -- the variable of the greatest key
  abbrev picked : ℕ → Bool
  picked i = at_leaf (λ d. w.greatest (suc d)) b n i

  -- the decoder sets it
  pub variable_set : (i : ℕ) → i < n → w.node b (2 ^ b - n + i) ≡ w.act && picked i
  variable_set =
      decoded w.node w.act (λ d. w.greatest (suc d)) b on_state.cells.node-root on_state.cells.node-one on_state.cells.node-zero n
      on_state.room

  -- it is the lowest free variable of that row
  pub picked-lowest : (e : satisfied n (row_of rows k) t f ≡ false) → v k winner.low e < n → (i : ℕ) → i < n → picked i ≡ eqb i (v k winner.low e)
  picked-lowest e l =
      let number : word_of (λ d. w.greatest (suc d)) b ≡ n - 1 - v k winner.low e =
      word_of_cong (λ d. w.greatest (suc d)) (λ d. w.key k (suc d)) b (λ d g. winner.is_key (suc d) (omega arith)) ∙ variable_number k winner.low e l in
      picked-is (λ d. w.greatest (suc d)) b n (v k winner.low e) on_state.room (omega (arith, number))
