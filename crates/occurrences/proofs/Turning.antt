-- A row turned over in the sets of some literals: word by word, and literal by literal from the word of those that are left, as code does it.
use mathlib.Core.Path.{◌≡◌, refl, sym, ap, ap₂, ◌∙◌}
use mathlib.Core.Bool.{Bool, true, false, ◌&&◌, cond, and-false, and-true}
use mathlib.Core.List.{List, [], ◌∷◌}
use Prim.Native.Nat.{ℕ, zero, suc, ◌+◌, ◌-◌, ◌*◌, ◌/◌, ◌%◌, ◌^◌, ◌≤◌, ◌<◌}
use native.Mathlib.Nat.{le_of_suc-le-suc, not-suc-le-zero, one-mul}
use native.Mathlib.Omega.{arith}
use lib.Dec.{eqb, lit<}
use lib.Bits.{bit_and, bit_xor}
use lib.Count.{count_trailing_zeros}
use lib.ListN.{length, get_or, set, length-set}
use lib.Pow.{shl_exact}
use lib.Seq.{ext_get_or, get_or-set_same, get_or-set_other}
use borrow.Author.Tests.{eqb-true, eqb-false, eq-eqb, ne_eqb}
use Rattle.words.specs.Sets.{bit, lowest}
use Rattle.words.proofs.Truth.{on}
use Rattle.words.proofs.Bits.{bit-zero}
use Rattle.words.proofs.Operations.{and-lt-left, lowest_trailing, lowest_in}
use Rattle.words.proofs.Ones.{and_pred}
use Rattle.occurrences.specs.RowWords.{turned_from, turned}

-- ---- word by word

module _ (p : ℕ → Bool) (b : ℕ) where
  from-length : (i : ℕ) (ws : List ℕ) → length (turned_from p b i ws) ≡ length ws
  unfolding turned_from
  from-length i [] = refl
  from-length i (w ∷ ws) = ap suc (from-length (suc i) ws)

  from_at : (i : ℕ) (ws : List ℕ) (k : ℕ) → k < length ws
      → get_or (turned_from p b i ws) k 0 ≡ cond (p (i + k)) (bit_xor (get_or ws k 0) (2 ^ b)) (get_or ws k 0)
  unfolding turned_from
  from_at i [] k h = absurd (not-suc-le-zero h)
  from_at i (w ∷ ws) zero h = let z : i ≡ i + 0 = omega arith in ap (λ (x : ℕ). cond (p x) (bit_xor w (2 ^ b)) w) z
  from_at i (w ∷ ws) (suc k) h =
      let z : suc i + k ≡ i + suc k = omega arith in
      from_at (suc i) ws k (le_of_suc-le-suc h) ∙ ap (λ (x : ℕ). cond (p x) (bit_xor (get_or ws k 0) (2 ^ b)) (get_or ws k 0)) z

-- word i is one of the row's in the set of a literal that passes
abbrev pub turns : (ℕ → Bool) → ℕ → ℕ → Bool
turns p row i = eqb (i % 6) (row / 64) && p (i / 6)

-- what becomes of it
abbrev pub turned_word : (ℕ → Bool) → ℕ → List ℕ → ℕ → ℕ
turned_word p row index i = cond (turns p row i) (bit_xor (get_or index i 0) (2 ^ (row % 64))) (get_or index i 0)

module _ (p : ℕ → Bool) (row : ℕ) (index : List ℕ) where
  pub turned-length : length (turned p row index) ≡ length index
  unfolding turned
  turned-length = from-length (turns p row) (row % 64) 0 index

  pub turned-at : (i : ℕ) → i < length index → get_or (turned p row index) i 0 ≡ turned_word p row index i
  unfolding turned
  turned-at i h =
      let z : 0 + i ≡ i = omega arith in
      from_at (turns p row) (row % 64) 0 index i h ∙ ap (λ (x : ℕ). cond (turns p row x) (bit_xor (get_or index i 0) (2 ^ (row % 64))) (get_or index i 0)) z

  -- in no set
  turned_same : ((i : ℕ) → turns p row i ≡ false) → turned p row index ≡ index
  turned_same none =
      ext_get_or 0 (turned p row index) index turned-length
      (λ i h. turned-at i (rw turned-length at h) ∙ ap (λ (x : Bool). cond x (bit_xor (get_or index i 0) (2 ^ (row % 64))) (get_or index i 0)) (none i))

  pub turned_none : ((l : ℕ) → p l ≡ false) → turned p row index ≡ index
  turned_none none = turned_same (λ i. rw (none (i / 6)) (and-false (eqb (i % 6) (row / 64))))

  pub turned_past : 384 ≤ row → turned p row index ≡ index
  turned_past h = turned_same (λ i. rw (ne_eqb (i % 6) (row / 64) (λ e. omega arith)))

-- two that are the same word by word
pub turned_ext : (p q : ℕ → Bool) (row : ℕ) (x y : List ℕ) → length x ≡ length y → ((i : ℕ) → i < length x → turned_word p row x i ≡ turned_word q row y i)
    → turned p row x ≡ turned q row y
turned_ext p q row x y e h =
    ext_get_or 0 (turned p row x) (turned q row y) (turned-length p row x ∙ e ∙ sym (turned-length q row y))
    (λ i k.
    let b = rw (turned-length p row x) at k in
    turned-at p row x i b ∙ h i b ∙ sym (turned-at q row y i (omega arith)))

-- ---- literal by literal

-- turning what is left gives what turning all of them gave at first
pub record Turning (before : List ℕ) (literals row : ℕ) (index : List ℕ) (left : ℕ) : Type 0 where
  pub low : left < 2 ^ 64
  pub rest : turned (bit left) row index ≡ turned (bit literals) row before

-- the number of the literal that is next
pub next_low : (left : ℕ) → left < 2 ^ 64 → (left ≡ 0 → ⊥) → count_trailing_zeros 64 left < 64
next_low left h z = omega (arith, (lowest_in 64 left h z).0, lowest_trailing 64 left h)

module _ (left row : ℕ) (index : List ℕ) (low : left < 2 ^ 64) (z : left ≡ 0 → ⊥) (few : row < 384) where
  abbrev next : ℕ
  next = lowest (bit left) 64

  abbrev place : ℕ
  place = 6 * next + row / 64

  abbrev later : ℕ
  later = bit_and left (left - 1)

  abbrev word : ℕ
  word = bit_xor (get_or index place 0) (2 ^ (row % 64))

  found : (next < 64) × (bit left next ≡ true)
  found = lowest_in 64 left low z

  -- the word of the literal that is taken
  here : place < length index → turned_word (bit later) row (set index place word) place ≡ turned_word (bit left) row index place
  here inside =
      let l : place / 6 ≡ next = omega arith in
      let w : place % 6 ≡ row / 64 = omega arith in
      rw (l, w, eq-eqb (row / 64) (row / 64) refl, and_pred 64 left low z next, found.1, eq-eqb next next refl)
      (get_or-set_same index place word 0 inside)

  -- any other
  turns_as : (i : ℕ) → (i ≡ place → ⊥) → turns (bit later) row i ≡ turns (bit left) row i
  turns_as i other =
      on (eqb (i % 6) (row / 64))
      (λ e.
      let w = eqb-true (i % 6) (row / 64) e in
      rw e (and_pred 64 left low z (i / 6) ∙ rw (ne_eqb (i / 6) next (λ l. other (omega arith))) (and-true (bit left (i / 6)))))
      (λ e. rw e)

  there : (i : ℕ) → (i ≡ place → ⊥) → turned_word (bit later) row (set index place word) i ≡ turned_word (bit left) row index i
  there i other = ap₂ (λ (x : Bool) (y : ℕ). cond x (bit_xor y (2 ^ (row % 64))) y) (turns_as i other) (get_or-set_other index place i word 0 other)

  taken : turned (bit later) row (set index place word) ≡ turned (bit left) row index
  taken =
      turned_ext (bit later) (bit left) row (set index place word) index (length-set index place word)
      (λ i b. on (eqb i place)
      (λ e.
      let k = eqb-true i place e in
      ap (λ (x : ℕ). turned_word (bit later) row (set index place word) x) k ∙ here (omega (arith, length-set index place word))
      ∙ ap (λ (x : ℕ). turned_word (bit left) row index x) (sym k))
      (λ e. there i (eqb-false i place e)))

module _ (before : List ℕ) (literals row : ℕ) where
  -- at first all are left
  pub turning_all : literals < 2 ^ 64 → Turning before literals row before literals
  turning_all low = record { low = low; rest = refl }

  module _ (left : ℕ) (index : List ℕ) (t : Turning before literals row index left) where
    -- in the end none is
    pub turning_none : left ≡ 0 → index ≡ turned (bit literals) row before
    turning_none z = sym (turned_none (bit left) row index (λ l. ap (λ (x : ℕ). bit x l) z ∙ bit-zero l)) ∙ t.rest

    module _ (z : left ≡ 0 → ⊥) where
      abbrev at_next : ℕ
      at_next = 6 * count_trailing_zeros 64 left + row / 64

      -- one less, as code has it
      pub turning_less : row < 384
          → Turning before literals row (set index at_next (bit_xor (get_or index at_next 0) ((1 * 2 ^ (row % 64)) % 2 ^ 64))) (bit_and left (left - 1))
      turning_less few = record {
        low = and-lt-left 64 left (left - 1) t.low;
        rest = rw (← lowest_trailing 64 left t.low, shl_exact 1 (row % 64) 64 (lit< tt) (omega arith), one-mul)
            (taken left row index t.low z few ∙ t.rest);
      }
