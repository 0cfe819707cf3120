-- Planes looked through for bits beyond the row count or beyond n: a plane's words up to variable n have one limit, those after it another.
use mathlib.Core.Path.{◌≡◌, refl, sym, ap, ap₂, ◌∙◌}
use mathlib.Core.Bool.{Bool, true, false, not, ◌&&◌, ◌||◌, cond}
use mathlib.Core.List.{List}
use Prim.Native.Nat.{ℕ, zero, suc, ◌+◌, ◌-◌, ◌*◌, ◌/◌, ◌%◌, ◌^◌, ◌≤◌, ◌<◌}
use native.Mathlib.Nat.{zero-add, add-zero, add-suc, suc-add}
use native.Mathlib.Omega.{arith}
use lib.Dec.{ltb}
use lib.ListN.{length, get_or, take, drop}
use lib.Seq.{drop-cons}
use borrow.Author.Tests.{lt-ltb, le-ltb, ltb-true}
use Rattle.std.specs.Bool.{MatchBool}
use Rattle.std.specs.List.{range_with_len, AllWithin, HoldsAt}
use Rattle.std.proofs.lemmas.List.FromFn.{length-range_with_len, get_or-range_with_len}
use Rattle.words.specs.Sets.{any}
use Rattle.words.proofs.Truth.{on}
use Rattle.words.proofs.Upto.{any-i, any_e}
use Rattle.words.proofs.Last.{any_cong}
use Rattle.tables.specs.Acceptance.{all_below}
use Rattle.columns.specs.Planes.{square_count}
use Rattle.columns.specs.Columns.{room, stray_word, stray}

-- ---- a test over a + b numbers, in two parts

any-add : (q : ℕ → Bool) (a b : ℕ) → any q (a + b) ≡ any q a || any (λ i. q (a + i)) b
unfolding any
any-add q zero b = let e : 0 + b ≡ b = omega arith in ap (any q) e ∙ any_cong q (λ i. q (0 + i)) b (λ i h. let z : i ≡ 0 + i = omega arith in ap q z)
any-add q (suc a) b =
    ap (any q) (suc-add a b)
    ∙ ap (λ (x : Bool). q 0 || x) (any-add (λ i. q (suc i)) a b ∙ ap (λ (x : Bool). any (λ i. q (suc i)) a || x)
    (any_cong (λ i. q (suc (a + i))) (λ i. q (suc a + i)) b (λ i h. ap q (sym (suc-add a i)))))
    ∙ assoc (q 0) (any (λ i. q (suc i)) a) (any (λ i. q (suc a + i)) b)
  where
    assoc : (x y z : Bool) → x || (y || z) ≡ (x || y) || z
    assoc true y z = refl
    assoc false y z = refl

-- ---- words side by side under one limit

not-all : (k : ℕ) (l : List ℕ) (at c : ℕ) → at + c ≤ length l
    → not (all_below k (take c (drop at l))) ≡ any (λ i. not (ltb (get_or l (at + i) 0) (2 ^ k))) c
unfolding all_below any
not-all k l at zero h = refl
not-all k l at (suc c) h =
    ap (λ (x : List ℕ). not (all_below k (take (suc c) x))) (drop-cons l at 0 (omega arith))
    ∙ either (ltb (get_or l at 0) (2 ^ k)) (all_below k (take c (drop (suc at) l)))
    ∙ ap₂ ◌||◌ (ap (λ (x : ℕ). not (ltb (get_or l x 0) (2 ^ k))) (sym (add-zero at)))
    (not-all k l (suc at) c (omega arith)
    ∙ any_cong (λ i. not (ltb (get_or l (suc at + i) 0) (2 ^ k))) (λ i. not (ltb (get_or l (at + suc i) 0) (2 ^ k))) c
    (λ i b. ap (λ (x : ℕ). not (ltb (get_or l x 0) (2 ^ k))) (suc-add at i ∙ sym (add-suc at i))))
  where
    either : (x y : Bool) → not (x && y) ≡ not x || not y
    either true y = refl
    either false y = refl

-- ---- a plane

module _ (n rows : ℕ) (planes : List ℕ) where
  -- how many rows square s has
  abbrev held : ℕ → ℕ
  held s = cond (ltb (rows - 32 * s) 32) (rows - 32 * s) 32

  pub held-most : (s : ℕ) → held s ≤ 32
  held-most s = on (ltb (rows - 32 * s) 32) (λ h. rw h (omega (arith, ltb-true (rows - 32 * s) 32 h))) (λ h. rw h (omega arith))

  -- the two runs of words of plane p
  pub plane_strays : (p : ℕ) → n ≤ 32 → 32 * p + 32 ≤ length planes → (left : ℕ) → left ≡ held (p / 2)
      → not (all_below left (take n (drop (32 * p) planes))) || not (all_below 0 (take (32 - n) (drop (32 * p + n) planes)))
      ≡ any (λ i. stray_word n rows planes (32 * p + i)) 32
  plane_strays p hn hl left e =
      let whole : n + (32 - n) ≡ 32 = omega arith in
      ap₂ ◌||◌ (not-all left planes (32 * p) n (omega arith)
      ∙ any_cong (λ i. not (ltb (get_or planes (32 * p + i) 0) (2 ^ left))) (λ i. stray_word n rows planes (32 * p + i)) n
      (λ i b. ap (λ (k : ℕ). not (ltb (get_or planes (32 * p + i) 0) (2 ^ k))) (e ∙ sym (inside i b))))
      (not-all 0 planes (32 * p + n) (32 - n) (omega arith)
      ∙ any_cong (λ i. not (ltb (get_or planes (32 * p + n + i) 0) (2 ^ 0))) (λ i. stray_word n rows planes (32 * p + (n + i))) (32 - n)
      (λ i b. let q : 32 * p + n + i ≡ 32 * p + (n + i) = omega arith in
      ap₂ (λ (x k : ℕ). not (ltb (get_or planes x 0) (2 ^ k))) q (sym (beyond (n + i) (omega arith) (omega arith)))))
      ∙ sym (any-add (λ i. stray_word n rows planes (32 * p + i)) n (32 - n))
      ∙ ap (any (λ i. stray_word n rows planes (32 * p + i))) whole
    where
      inside : (i : ℕ) → i < n → room n rows (32 * p + i) ≡ held (p / 2)
      inside i b =
          let column : (32 * p + i) % 32 ≡ i = omega arith in
          let square : (32 * p + i) / 64 ≡ p / 2 = omega arith in
          rw (column, square, lt-ltb i n b) refl

      beyond : (i : ℕ) → n ≤ i → i < 32 → room n rows (32 * p + i) ≡ 0
      beyond i b c =
          let column : (32 * p + i) % 32 ≡ i = omega arith in
          rw (column, le-ltb i n b) refl

  -- ---- all planes

  -- some word of plane p is stray
  abbrev pub plane_has : ℕ → Bool
  plane_has p = any (λ i. stray_word n rows planes (32 * p + i)) 32

  none-below : (k : ℕ) → ((p : ℕ) → p < k → plane_has p ≡ false) → any (stray_word n rows planes) (32 * k) ≡ false
  unfolding any
  none-below zero h = refl
  none-below (suc k) h =
      let more : 32 * suc k ≡ 32 * k + 32 = omega arith in
      ap (any (stray_word n rows planes)) more ∙ any-add (stray_word n rows planes) (32 * k) 32
      ∙ rw (none-below k (λ p b. h p (omega arith)), h k (omega arith)) refl

  found : (p : ℕ) → p < 2 * square_count rows → plane_has p ≡ true → true ≡ stray n rows planes
  unfolding stray
  found p h e =
      let hit = any_e (λ i. stray_word n rows planes (32 * p + i)) 32 e in
      let l = hit.1 in
      sym (any-i (stray_word n rows planes) (64 * square_count rows) (32 * p + hit.0) (omega arith) hit.2)

  none : ((p : ℕ) → p < 2 * square_count rows → plane_has p ≡ false) → false ≡ stray n rows planes
  unfolding stray
  none h =
      let all : 64 * square_count rows ≡ 32 * (2 * square_count rows) = omega arith in
      sym (ap (any (stray_word n rows planes)) all ∙ none-below (2 * square_count rows) h)

  -- one of them has a stray word, or none
  pub any-planes : (r : Bool) (k : ℕ) → k ≡ 2 * square_count rows → let ps = range_with_len 0 k in
      MatchBool r ((i : ℕ) × (i < length ps) × HoldsAt (λ p. plane_has p ≡ true) ps i) (AllWithin (λ p. plane_has p ≡ false) ps 0 (length ps))
      → r ≡ stray n rows planes
  any-planes true k e (i, b, h) =
      let size : length (range_with_len 0 k) ≡ k = length-range_with_len 0 k in
      let at : get_or (range_with_len 0 k) i 0 ≡ i = get_or-range_with_len 0 k i 0 (omega arith) ∙ zero-add i in
      found i (omega arith) (rw at at (h 0))
  any-planes false k e h =
      let size : length (range_with_len 0 k) ≡ k = length-range_with_len 0 k in
      none (λ p b.
      let at : get_or (range_with_len 0 k) p 0 ≡ p = get_or-range_with_len 0 k p 0 (omega arith) ∙ zero-add p in
      rw at at (h p 0 (omega arith) (omega arith)))
