-- Each section of the circuit begins where the one before ends, and so each has room: from the addresses, by sums over n, m, b and their products.
use mathlib.Core.Path.{◌≡◌, refl, ap, sym, ◌∙◌, subst}
use mathlib.Core.List.{List, [], ◌++◌}
use Prim.Native.Nat.{ℕ, zero, suc, ◌+◌, ◌*◌, ◌-◌, ◌^◌, ◌≤◌, ◌<◌}
use native.Mathlib.Nat.{le_refl, pow-suc}
use native.Mathlib.Omega.{arith}
use borrow.Author.Tests.{ltb-true, ltb-false}
use lib.Dec.{ltb}
use lib.ListN.{length, get_or, length-append}
use lib.Seq.{sets}
use Rattle.words.proofs.Truth.{on}
use Rattle.gates.specs.Gates.{Gate}
use Rattle.gates.specs.Memory.{words_of}
use Rattle.sections.specs.declared.Addresses.{Addresses}
use Rattle.sections.specs.declared.Section.{Section}
use Rattle.sections.specs.Addressing.{digits_to, addresses_of}
use Rattle.sections.specs.Sections as Sections
use Rattle.sections.specs.Sections.{digit_after, node_at, five, first, section_at}
use Rattle.sections.proofs.InOrder.{at_first, at_level, at_last}
use Rattle.netlist.specs.Arrays.{rows, array}
use Rattle.netlist.specs.Netlist.{circuit}
use Rattle.netlist.proofs.Counts.{circuit-length}
use Rattle.generator.specs.Storing.{gates_of}
use Rattle.generator.proofs.Placing.{row_more}
use Rattle.generator.proofs.Chain.{size, Begins, Chain, ends, chain-at, chain_end, ends_more, chain_append, five_chained}
use Rattle.generator.proofs.Circuit.{f, last, judged, signed, chosen, held, changed, from-digits, from_keys, from_splits, f-length, all_sections}

-- one more section, of f gates, after t gates
step : (i t f whole r e e' : ℕ) → whole ≡ t + f → f ≡ r → i + t ≡ e → e' ≡ e + r → i + whole ≡ e'
step i t f whole r e e' h₁ h₂ h₃ h₄ = omega arith

-- a section of no lanes may be anywhere
anywhere : (s : Section) (i t : ℕ) (w : List ℕ) → (0 < s.lanes → s.base ≡ i + t)
    → sets w (3 * (s.base - i)) (words_of (gates_of s)) ≡ sets w (0 + 3 * t) (words_of (gates_of s))
unfolding array words_of
anywhere s i t w h =
    on (ltb 0 s.lanes)
    (λ e.
    let p : 3 * (s.base - i) ≡ 0 + 3 * t = omega (arith, h (ltb-true 0 s.lanes e)) in
    ap (λ (k : ℕ). sets w k (words_of (gates_of s))) p)
    (λ e.
    let z : s.lanes ≡ 0 = omega (arith, ltb-false 0 s.lanes e) in
    let g : gates_of s ≡ [] = rw z in
    ap (λ (l : List Gate). sets w (3 * (s.base - i)) (words_of l)) g ∙ sym (ap (λ (l : List Gate). sets w (0 + 3 * t) (words_of l)) g))

module _ (n m b : ℕ) (few : b ≤ 5) where
  abbrev a : Addresses
  a = addresses_of n m b

  -- ---- where each begins

  judged_chained : Chain a.inputs a.inputs (judged a) a.digits
  unfolding size
  judged_chained = omega arith

  digits_chained : Chain a.inputs (digit_after a 0) (five a (Sections.digit a)) (digit_after a b)
  unfolding size digits_to
  digits_chained = five_chained a (Sections.digit a) few (digit_after a) (λ d. refl) (λ d. omega arith) (λ d. omega arith)

  keys_chained : Chain a.inputs (a.keys + m * (1 + 0)) (five a (Sections.key_digit a)) (a.keys + m * (1 + b))
  unfolding size
  keys_chained = five_chained a (Sections.key_digit a) few (λ d. a.keys + m * (1 + d)) (λ d. refl) (λ d. omega arith) (λ d. omega arith)

  chosen_chained : Chain a.inputs (a.keys + m * (1 + b)) (chosen a) (a.rule + 14)
  unfolding size
  chosen_chained = omega arith

  splits_chained : Chain a.inputs (node_at a (2 * 2 ^ 0)) (five a (Sections.split a)) (node_at a (2 * 2 ^ b))
  unfolding size
  splits_chained =
      five_chained a (Sections.split a) few (λ d. node_at a (2 * 2 ^ d)) (λ d. refl) (λ d. omega (arith, pow-suc 2 d)) (λ d. omega arith)

  held_chained : Chain a.inputs a.targets (held a) a.levels
  unfolding size
  held_chained = omega arith

  changed_chained : Chain a.inputs a.levels (changed a) (a.outputs + 3 * n + 1)
  unfolding size
  changed_chained = omega arith

  chained : Chain a.inputs a.inputs (first a) (a.outputs + 3 * n + 1)
  unfolding size digits_to
  chained =
      chain_append a.inputs a.inputs a.digits (digit_after a 0) _ (judged a) (from-digits a) judged_chained (omega arith)
      (chain_append a.inputs (digit_after a 0) (digit_after a b) a.keys _ (five a (Sections.digit a)) ((signed a) ++ (from_keys a)) digits_chained refl
      (chain_append a.inputs a.keys (a.keys + m * (1 + 0)) _ _ (signed a) (from_keys a) (omega arith) refl
      (chain_append a.inputs (a.keys + m * (1 + 0)) (a.keys + m * (1 + b)) _ _ (five a (Sections.key_digit a))
      ((chosen a) ++ (from_splits a)) keys_chained refl
      (chain_append a.inputs (a.keys + m * (1 + b)) (a.rule + 14) (node_at a (2 * 2 ^ 0)) _ (chosen a) (from_splits a) chosen_chained (omega arith)
      (chain_append a.inputs (node_at a (2 * 2 ^ 0)) a.targets _ _ (five a (Sections.split a)) ((held a) ++ (changed a)) splits_chained refl
      (chain_append a.inputs a.targets a.levels _ _ (held a) (changed a) held_chained refl changed_chained))))))

  reach : (k : ℕ) → k ≤ 40 → a.inputs + length (rows (f a) k) ≡ ends a.inputs (first a) k
  reach zero h = omega arith
  reach (suc k) h =
      step a.inputs (length (rows (f a) k)) (length (f a k)) _ (size (get_or (first a) k (last a))) (ends a.inputs (first a) k) _
      (length-append (rows (f a) k) (f a k)) (f-length a k ∙ ap size (sym (at_first a k h))) (reach k (omega arith))
      (ends_more a.inputs (first a) (last a) k h)

  -- with l of the next levels
  reach_levels : (l : ℕ) → l ≤ n → (k : ℕ) → k ≡ 40 + l → a.inputs + length (rows (f a) k) ≡ a.outputs + 3 * n + 1 + 3 * n * l
  unfolding size
  reach_levels zero h k e =
      let e' : k ≡ 40 = omega arith in
      let r = reach 40 (omega arith) ∙ chain_end a.inputs a.inputs (first a) (a.outputs + 3 * n + 1) chained in
      let z : a.outputs + 3 * n + 1 ≡ a.outputs + 3 * n + 1 + 3 * n * 0 = omega arith in
      subst (λ (j : ℕ). a.inputs + length (rows (f a) j) ≡ a.outputs + 3 * n + 1 + 3 * n * 0) (sym e') (r ∙ z)
  reach_levels (suc l) h zero e = absurd (omega arith)
  reach_levels (suc l) h (suc k) e =
      let s : size (section_at a k) ≡ 3 * n = sym (ap size (at_level a k (omega arith) (omega arith))) ∙ omega arith in
      let q : a.outputs + 3 * n + 1 + 3 * n * suc l ≡ a.outputs + 3 * n + 1 + 3 * n * l + 3 * n = omega arith in
      step a.inputs (length (rows (f a) k)) (length (f a k)) _ (3 * n) (a.outputs + 3 * n + 1 + 3 * n * l) _
      (length-append (rows (f a) k) (f a k)) (f-length a k ∙ s) (reach_levels l (omega arith) k (omega arith)) q

  begins : (k : ℕ) → k < 41 + n → Begins a.inputs (a.inputs + length (rows (f a) k)) (section_at a k)
  begins k h =
      on (ltb k 40)
      (λ e.
      let l : k < 40 = ltb-true k 40 e in
      subst (Begins a.inputs (a.inputs + length (rows (f a) k))) (at_first a k l)
      (subst (λ (x : ℕ). Begins a.inputs x (get_or (first a) k (last a))) (sym (reach k (omega arith)))
      (chain-at a.inputs a.inputs (first a) (a.outputs + 3 * n + 1) (last a) chained k l)))
      (λ e. on (ltb (k - 40) n)
      (λ e'.
      let l : k - 40 < n = ltb-true (k - 40) n e' in
      subst (Begins a.inputs (a.inputs + length (rows (f a) k))) (at_level a k (ltb-false k 40 e) l)
      (beginning (Sections.next_level a (k - 40)) (reach_levels (k - 40) (omega arith) k (omega (arith, ltb-false k 40 e))) (omega arith)))
      (λ e'.
      subst (Begins a.inputs (a.inputs + length (rows (f a) k))) (at_last a k (ltb-false k 40 e) (ltb-false (k - 40) n e'))
      (beginning (last a) (reach_levels n (le_refl n) k (omega (arith, ltb-false k 40 e, ltb-false (k - 40) n e'))) (omega arith))))
    where
      beginning : (s : Section) → a.inputs + length (rows (f a) k) ≡ s.base → a.inputs ≤ s.base → Begins a.inputs (a.inputs + length (rows (f a) k)) s
      beginning s e l = ((λ h'. sym e), l, omega arith)

  -- a turn of the loop: one more section after those before
  pub section_more : (k : ℕ) → k < 41 + n → (i : ℕ) → i ≡ a.inputs → (s : Section) → s ≡ section_at a k → (w₀ w w' : List ℕ)
      → w ≡ sets w₀ 0 (words_of (rows (f a) k)) → w' ≡ sets w (3 * (s.base - i)) (words_of (gates_of s)) → w' ≡ sets w₀ 0 (words_of (rows (f a) (k + 1)))
  section_more k h i ei s es w₀ w w' e e' =
      let p : Begins i (i + length (rows (f a) k)) s =
      subst (Begins i (i + length (rows (f a) k))) (sym es) (subst (λ (x : ℕ). Begins x (x + length (rows (f a) k)) (section_at a k)) (sym ei) (begins k h)) in
      row_more (f a) w₀ w w' 0 (0 + 3 * length (rows (f a) k)) k e refl
      (e' ∙ anywhere s i (length (rows (f a) k)) w p.0 ∙ ap (λ (x : Section). sets w (0 + 3 * length (rows (f a) k)) (words_of (gates_of x))) es)

  -- ---- each has room

  -- fewer sections have no more gates
  fewer : (k j : ℕ) → k ≤ j → length (rows (f a) k) ≤ length (rows (f a) j)
  fewer k zero h =
      let e : k ≡ 0 = omega arith in
      omega (arith, ap (λ (x : ℕ). length (rows (f a) x)) e)
  fewer k (suc j) h =
      on (ltb j k)
      (λ t.
      let e : k ≡ suc j = omega (arith, ltb-true j k t) in
      omega (arith, ap (λ (x : ℕ). length (rows (f a) x)) e))
      (λ t. omega (arith, fewer k j (ltb-false j k t), length-append (rows (f a) j) (f a j)))

  pub inside : (k : ℕ) → k < 41 + n → (a.inputs ≤ (section_at a k).base) × ((section_at a k).base + size (section_at a k) ≤ a.wires)
  inside k h =
      let p = begins k h in
      let more : length (rows (f a) (suc k)) ≤ length (rows (f a) (41 + n)) = fewer (suc k) (41 + n) h in
      let whole : length (rows (f a) (41 + n)) ≡ length (circuit a) = ap length (all_sections a few (41 + n) refl) in
      (p.1, omega (arith, p.2, more, whole, f-length a k, length-append (rows (f a) k) (f a k), circuit-length n m b))
