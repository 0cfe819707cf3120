-- The greatest of the rows' keys: items 0 to m - 1 are the keys, item m + s is the greater of items 2s and 2s + 1. Then the last item is the key of some row,
-- and no key is greater. Each item is a key, by induction on its number; none is greater than the last, by induction on how far it is from the last.
use mathlib.Core.Path.{◌≡◌, sym, ap, ◌∙◌}
use mathlib.Core.Bool.{Bool, true, false}
use Prim.Native.Nat.{ℕ, zero, suc, ◌+◌, ◌*◌, ◌-◌, ◌/◌, ◌≤◌, ◌<◌}
use native.Mathlib.Nat.{le_refl}
use native.Mathlib.Omega.{arith}
use lib.Dec.{ltb, eqb}
use borrow.Author.Tests.{ltb-true, ltb-false, eqb-true, eqb-false}
use Rattle.words.specs.Sets.{word_of}
use Rattle.words.proofs.Truth.{on}
use Rattle.words.proofs.WordOf.{word_of_cong}
use Rattle.netlist.proofs.Digits.{kept_of, kept-true, kept-false}

-- these are the digits of the key of a row before row t, and no key before row t is greater; w digits
pub record Won (key : ℕ → ℕ → Bool) (w t : ℕ) (best : ℕ → Bool) : Type 0 where
  pub row : ℕ
  pub low : row < t
  pub is_key : (i : ℕ) → i < w → best i ≡ key row i
  pub most : (j : ℕ) → j < t → word_of (key j) w ≤ word_of best w

module _ (key item : ℕ → ℕ → Bool) (keep : ℕ → Bool) (w m : ℕ)
    (leaf : (j i : ℕ) → j < m → i < w → item j i ≡ key j i)
    (node : (s i : ℕ) → suc s < m → i < w → item (m + s) i ≡ kept_of (keep s) (item (2 * s) i) (item (2 * s + 1) i))
    (kept : (s : ℕ) → suc s < m → keep s ≡ ltb (word_of (item (2 * s)) w) (word_of (item (2 * s + 1)) w)) where
  abbrev value : ℕ → ℕ
  value t = word_of (item t) w

  -- the left item is taken
  taken : (s : ℕ) → suc s < m → keep s ≡ false → (i : ℕ) → i < w → item (m + s) i ≡ item (2 * s) i
  taken s h e i b = node s i h b ∙ ap (λ (k : Bool). kept_of k (item (2 * s) i) (item (2 * s + 1) i)) e ∙ kept-false (item (2 * s) i) (item (2 * s + 1) i)

  -- the right item
  stays : (s : ℕ) → suc s < m → keep s ≡ true → (i : ℕ) → i < w → item (m + s) i ≡ item (2 * s + 1) i
  stays s h e i b = node s i h b ∙ ap (λ (k : Bool). kept_of k (item (2 * s) i) (item (2 * s + 1) i)) e ∙ kept-true (item (2 * s) i) (item (2 * s + 1) i)

  -- ---- each item is a key

  record Source (t : ℕ) : Type 0 where
    row : ℕ
    low : row < m
    is_key : (i : ℕ) → i < w → item t i ≡ key row i

  -- a row's own item, or a node's
  leaf_or : {C : Type 0} (t : ℕ) → suc t < 2 * m → (t < m → C) → ((s : ℕ) → m + s ≡ t → suc s < m → C) → C
  leaf_or t h here above =
      on (ltb t m) (λ e. here (ltb-true t m e)) (λ e. let l : m ≤ t = ltb-false t m e in above (t - m) (omega arith) (omega arith))

  source : (k t : ℕ) → t < k → suc t < 2 * m → Source t
  source zero t l h = absurd (omega arith)
  source (suc k) t l h =
      leaf_or t h
      (λ b. record { row = t; low = b; is_key = λ i c. leaf t i b c })
      (λ s q b. on (keep s)
      (λ e. let r = source k (2 * s + 1) (omega arith) (omega arith) in
      record { row = r.row; low = r.low; is_key = λ i c. ap (λ (x : ℕ). item x i) (sym q) ∙ stays s b e i c ∙ r.is_key i c })
      (λ e. let r = source k (2 * s) (omega arith) (omega arith) in
      record { row = r.row; low = r.low; is_key = λ i c. ap (λ (x : ℕ). item x i) (sym q) ∙ taken s b e i c ∙ r.is_key i c }))

  -- ---- none is greater than the last

  -- a node is no less than its two items
  node-most : (s : ℕ) → suc s < m → (value (2 * s) ≤ value (m + s)) × (value (2 * s + 1) ≤ value (m + s))
  node-most s h =
      on (keep s)
      (λ e. let same : value (m + s) ≡ value (2 * s + 1) = word_of_cong (item (m + s)) (item (2 * s + 1)) w (stays s h e) in
      let less : value (2 * s) < value (2 * s + 1) = ltb-true (value (2 * s)) (value (2 * s + 1)) (sym (kept s h) ∙ e) in
      (omega (arith, same, less), omega (arith, same)))
      (λ e. let same : value (m + s) ≡ value (2 * s) = word_of_cong (item (m + s)) (item (2 * s)) w (taken s h e) in
      let less : value (2 * s + 1) ≤ value (2 * s) = ltb-false (value (2 * s)) (value (2 * s + 1)) (sym (kept s h) ∙ e) in
      (omega (arith, same), omega (arith, same, less)))

  -- the node of an item
  parent_most : (t : ℕ) → t / 2 + 1 < m → value t ≤ value (m + t / 2)
  parent_most t h =
      let n = node-most (t / 2) (omega arith) in
      on (eqb (2 * (t / 2)) t)
      (λ e. rw (eqb-true (2 * (t / 2)) t e) at n.0)
      (λ e. let q : 2 * (t / 2) + 1 ≡ t = omega (arith, eqb-false (2 * (t / 2)) t e) in rw q at n.1)

  last-most : (k t : ℕ) → 2 * m ≤ t + k + 2 → suc t < 2 * m → value t ≤ value (2 * m - 2)
  last-most zero t l h = let q : 2 * m - 2 ≡ t = omega arith in rw q (le_refl (value t))
  last-most (suc k) t l h =
      on (eqb t (2 * m - 2))
      (λ e. rw (eqb-true t (2 * m - 2) e) (le_refl (value (2 * m - 2))))
      (λ e. let q : suc (suc t) < 2 * m = omega (arith, eqb-false t (2 * m - 2) e) in
      omega (arith, parent_most t (omega arith), last-most k (m + t / 2) (omega arith) (omega arith)))

  pub won : 0 < m → Won key w m (item (2 * m - 2))
  won h =
      let r = source (2 * m) (2 * m - 2) (omega arith) (omega arith) in
      record {
        row = r.row;
        low = r.low;
        is_key = r.is_key;
        most = λ j l.
            let same : value j ≡ word_of (key j) w = word_of_cong (item j) (key j) w (λ i b. leaf j i l b) in
            omega (arith, same, last-most (2 * m) j (omega arith) (omega arith));
      }
