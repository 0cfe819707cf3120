-- Each gate of the circuit reads earlier wires, so the evaluator takes it: every slot of every section is a wire before its cell.
use mathlib.Core.Path.{◌≡◌, refl, ap, ◌∙◌}
use mathlib.Core.Bool.{true}
use mathlib.Core.List.{List, [], ◌∷◌, ◌++◌}
use Prim.Native.Nat.{ℕ, zero, suc, ◌+◌, ◌*◌, ◌-◌, ◌^◌, ◌≤◌, ◌<◌}
use native.Mathlib.Nat.{mul-le-mul_left, mul-div-le}
use native.Mathlib.Omega.{arith}
use lib.ListN.{length}
use lib.Pow.{pow_pos}
use Rattle.gates.specs.Gates.{Gate}
use Rattle.gates.proofs.Circuits.{ordered}
use Rattle.netlist.specs.Arrays.{none, rows, array}
use Rattle.netlist.proofs.Arrays.{append_ordered, rows-ordered, cell-ordered, cells-ordered, zeros-ordered, lane-ordered, array-ordered}
use Rattle.netlist.specs.Templates as Templates
use Rattle.sections.specs.declared.Addresses.{Addresses}
use Rattle.sections.specs.Cells as Cells
use Rattle.sections.specs.Cells.{tree_lane}
use Rattle.sections.specs.Addressing.{thresholds, digits_to, levels_from, addresses_of}
use Rattle.sections.specs.Sections as Sections
use Rattle.sections.specs.Sections.{digit_after, node_at, guards_f}
use Rattle.netlist.specs.Netlist.{zero_gate, literals, counts, ranks, digit, key_sign, key_digit, key_low, key_high, bye, pairs, nodes, greatest, rule, root}
use Rattle.netlist.specs.Netlist.{split, targets, guards, selects, select_end, levels, levels_t, levels_f, levels_v, assign_t, assign_f, depths}
use Rattle.netlist.specs.Netlist.{next_assignment, next_depth, next_level, next_standing, judging, weighing, choosing, holding, changing, outputs, circuit}
use Rattle.netlist.proofs.Families.{family_ordered}
use Rattle.netlist.proofs.Counts.{literals-length, counts-length, digit-next, digits-length, key_sign-length, key_digit-next, key_digits_length}
use Rattle.netlist.proofs.Counts.{key_low-length, bye-length, pairs-length, nodes-length, greatest-length, split-next, targets-length, guards-length}
use Rattle.netlist.proofs.Counts.{selects-length, levels_t-length, levels_f-length, levels_v-length, assign_t-length, assign_f-length}
use Rattle.netlist.proofs.Counts.{next-assignment-length, next_depth_length, next-level-length, next-levels-length, judging-length, weighing-length}
use Rattle.netlist.proofs.Counts.{choosing-length, holding-length, changing-length}

-- gates from wire x on, and after them gates from wire y on
followed : (x y : ℕ) (xs ys : List Gate) → x + length xs ≡ y → ordered x xs ≡ true → ordered y ys ≡ true → ordered x (xs ++ ys) ≡ true
followed x y xs ys e p q = append_ordered x xs ys p (ap (λ (k : ℕ). ordered k ys) e ∙ q)

-- the gates of digit d and of those before it are among those before a greater digit
digits-within : (n m d k : ℕ) → digits_to n m d + (1 + thresholds n d) * m ≤ digits_to n m (suc d + k)
unfolding digits_to
digits-within n m d zero = let e : suc d + 0 ≡ suc d = omega arith in rw e (omega arith)
digits-within n m d (suc k) = let e : suc d + suc k ≡ suc (suc d + k) = omega arith in rw e (omega (arith, digits-within n m d k))

digits-below : (n m d e : ℕ) → d < e → digits_to n m d + (1 + thresholds n d) * m ≤ digits_to n m e
digits-below n m d e h = let q : suc d + (e - suc d) ≡ e = omega arith in rw q at (digits-within n m d (e - suc d))

module _ (n m b : ℕ) (room : n ≤ 2 ^ b) (a-row : 0 < m) where
  abbrev a : Addresses
  a = addresses_of n m b

  -- ---- what the rows say

  zero-ordered : ordered a.inputs (zero_gate a) ≡ true
  unfolding ordered
  zero-ordered = cell-ordered none a.inputs refl (omega arith) Templates.sum refl

  literals-ordered : ordered a.literals (literals a) ≡ true
  unfolding ordered
  literals-ordered = array-ordered 2 Templates.literal refl _ _ _ _ _ _ (omega arith) (λ j i l k. (refl, omega (arith, mul-le-mul_left n l)))

  counts-ordered : ordered a.counts (counts a) ≡ true
  unfolding ordered
  counts-ordered = array-ordered 2 Templates.count refl _ _ _ _ _ _ (omega arith) (λ j i l k. (refl, omega (arith, mul-le-mul_left n l)))

  ranks-ordered : ordered a.ranks (ranks a) ≡ true
  unfolding ordered
  ranks-ordered = cells-ordered Templates.rank refl _ _ _ _ (λ j l. (refl, omega (arith, mul-le-mul_left n l)))

  -- a threshold is at most n
  threshold_low : (d k : ℕ) → k < thresholds n d → n - 2 ^ d * thresholds n d + 2 ^ d * k ≤ n
  threshold_low d k h = omega (arith, mul-div-le (n - 1) (2 ^ d), mul-le-mul_left (2 ^ d) h)

  digit-ordered : (d : ℕ) → d < b → ordered (digit_after a d) (digit a d) ≡ true
  unfolding ordered
  digit-ordered d h =
      array-ordered 1 Templates.sum refl _ _ _ _ _ _ (omega arith)
      (λ j k l g. (refl, omega (arith, threshold_low d k g, mul-le-mul_left n l)))

  -- ---- keys

  key_sign-ordered : ordered a.keys (key_sign a) ≡ true
  unfolding ordered
  key_sign-ordered = cells-ordered Templates.sum refl _ _ _ _ (λ j l. (refl, omega (arith, mul-le-mul_left n l)))

  key_digit-ordered : (d : ℕ) → d < b → ordered (a.keys + m * (1 + d)) (key_digit a d) ≡ true
  unfolding ordered
  key_digit-ordered d h =
      cells-ordered Templates.sum refl _ _ _ _ (λ j l. (refl, omega (arith, digits-below n m d b h, mul-le-mul_left (thresholds n d) l)))

  key_low-ordered : ordered (a.keys + m * (1 + b)) (key_low a) ≡ true
  unfolding ordered
  key_low-ordered = cells-ordered Templates.sum refl _ _ _ _ (λ j l. (refl, omega arith))

  key_high-ordered : ordered (a.keys + m * (2 + b)) (key_high a) ≡ true
  unfolding ordered
  key_high-ordered = cells-ordered Templates.sum refl _ _ _ _ (λ j l. (refl, omega arith))

  -- ---- the greatest key, the rule and its variable

  bye-ordered : ordered a.tree (bye a) ≡ true
  unfolding ordered
  bye-ordered = lane-ordered 1 Templates.bye refl _ _ _ _ (omega arith) (λ i g. (refl, omega (arith, mul-le-mul_left m g, a-row)))

  pairs-ordered : ordered (a.tree + tree_lane b) (pairs a) ≡ true
  unfolding ordered
  pairs-ordered = array-ordered 1 Templates.pair refl _ _ _ _ _ _ (omega arith) (λ p i h g. (refl, omega (arith, mul-le-mul_left m g, mul-le-mul_left b h)))

  nodes-ordered : ordered (a.tree + tree_lane b + tree_lane b * a.pairs) (nodes a) ≡ true
  unfolding ordered
  nodes-ordered =
      array-ordered 1 Templates.node refl _ _ _ _ _ _ (omega arith)
      (λ q i h g. let k : a.skip + q + 1 ≤ a.pairs = omega arith in (refl, omega (arith, mul-le-mul_left b k)))

  greatest-ordered : ordered a.greatest (greatest a) ≡ true
  unfolding ordered
  greatest-ordered = cells-ordered Templates.choice refl _ _ _ _ (λ i g. (refl, omega arith))

  rule-ordered : ordered a.rule (rule a) ≡ true
  unfolding ordered
  rule-ordered =
      cell-ordered (Sections.rule a).slots a.rule refl (omega arith) Templates.rule refl

  root-ordered : ordered (a.rule + 13) (root a) ≡ true
  unfolding ordered
  root-ordered = cell-ordered (Sections.root a).slots (a.rule + 13) refl (omega arith) Templates.sum refl

  split-ordered : (d : ℕ) → d < b → ordered (node_at a (2 * 2 ^ d)) (split a d) ≡ true
  unfolding ordered
  split-ordered d h = cells-ordered Templates.split refl _ _ _ _ (λ k l. (refl, omega (arith, pow_pos d)))

  targets-ordered : ordered a.targets (targets a) ≡ true
  unfolding ordered
  targets-ordered = cells-ordered Templates.target refl _ _ _ _ (λ i l. (refl, omega (arith, room)))

  -- T and F from wire x on, pop and push
  guard-ordered : (base x y z : ℕ) → x + n < base → y < base → z < base
      → ordered base (array 0 Templates.guard (x ∷ y ∷ z ∷ 0 ∷ 0 ∷ 0 ∷ 0 ∷ 0 ∷ []) (n ∷ 0 ∷ 0 ∷ 0 ∷ 0 ∷ 0 ∷ 0 ∷ 0 ∷ [])
      (1 ∷ 0 ∷ 0 ∷ 0 ∷ 0 ∷ 0 ∷ 0 ∷ 0 ∷ []) base 2 n) ≡ true
  unfolding ordered
  guard-ordered base x y z hx hy hz = array-ordered 0 Templates.guard refl _ _ _ _ _ _ (omega arith) (λ j i l g. (refl, omega arith))

  guards-ordered : ordered a.guards (guards a) ≡ true
  guards-ordered = guard-ordered a.guards a.state (a.rule + 9) (a.rule + 6) (omega arith) (omega arith) (omega arith)

  selects-ordered : ordered a.selects (selects a) ≡ true
  unfolding ordered
  selects-ordered = lane-ordered 1 Templates.select refl _ _ _ _ (omega arith) (λ l h. (refl, omega arith))

  select_end_ordered : ordered (a.selects + 1 + 3 * n) (select_end a) ≡ true
  select_end_ordered = zeros-ordered _ _ (omega arith)

  -- ---- what changes

  -- a level's wires from x on, what is pushed from u on
  levels-ordered : (base x u s : ℕ) → a.levels ≤ base → x + 3 * (n * n) ≤ base + 2 * n → u + s * n ≤ base + s → ordered base (levels a base x u s) ≡ true
  unfolding ordered
  levels-ordered base x u s hb hx hu =
      array-ordered 1 Templates.level refl _ _ _ _ _ _ (omega arith) (λ i l h k. (refl, omega (arith, mul-le-mul_left n k, mul-le-mul_left s h)))

  levels_t-ordered : ordered a.levels (levels_t a) ≡ true
  levels_t-ordered = levels-ordered a.levels (levels_from n a.state) (a.guards + Cells.saved) (Cells.guard).size (omega arith) (omega arith) (omega arith)

  levels_f-ordered : ordered (a.levels + a.block) (levels_f a) ≡ true
  levels_f-ordered =
      levels-ordered (a.levels + a.block) (levels_from n a.state + n) (guards_f a + Cells.saved) (Cells.guard).size (omega arith) (omega arith)
      (omega arith)

  levels_v-ordered : ordered (a.levels + 2 * a.block) (levels_v a) ≡ true
  levels_v-ordered =
      levels-ordered (a.levels + 2 * a.block) (levels_from n a.state + 2 * n) (a.targets + Cells.pushed) (Cells.target).size (omega arith) (omega arith)
      (omega arith)

  assign_t-ordered : ordered a.assignments (assign_t a) ≡ true
  unfolding ordered
  assign_t-ordered = cells-ordered Templates.assignment refl _ _ _ _ (λ i l. (refl, omega (arith, mul-le-mul_left n l)))

  assign_f-ordered : ordered (a.assignments + 5 * n) (assign_f a) ≡ true
  unfolding ordered
  assign_f-ordered = cells-ordered Templates.assignment refl _ _ _ _ (λ i l. (refl, omega (arith, mul-le-mul_left n l)))

  depths-ordered : ordered a.depths (depths a) ≡ true
  unfolding ordered
  depths-ordered = cells-ordered Templates.sum refl _ _ _ _ (λ k l. (refl, omega arith))

  -- ---- outputs

  next-assignment-ordered : ordered a.outputs (next_assignment a) ≡ true
  unfolding ordered
  next-assignment-ordered = array-ordered 0 Templates.sum refl _ _ _ _ _ _ (omega arith) (λ j i l k. (refl, omega (arith, mul-le-mul_left n l)))

  next_depth_ordered : ordered (a.outputs + 2 * n) (next_depth a) ≡ true
  unfolding ordered
  next_depth_ordered = cells-ordered Templates.sum refl _ _ _ _ (λ k l. (refl, omega arith))

  next-level-ordered : (l : ℕ) → l < n → ordered (a.outputs + 3 * n + 1 + 3 * n * l) (next_level a l) ≡ true
  unfolding ordered
  next-level-ordered l h =
      array-ordered 0 Templates.sum refl _ _ _ _ _ _ (omega arith)
      (λ j i k u. (refl, omega (arith, mul-le-mul_left n h, mul-le-mul_left n k, mul-le-mul_left a.block k, mul-le-mul_left n u)))

  next-standing-ordered : ordered (a.outputs + 3 * n + 1 + 3 * n * n) (next_standing a) ≡ true
  unfolding ordered
  next-standing-ordered = cell-ordered (Sections.next_standing a).slots _ refl (omega arith) Templates.standing refl

  -- ---- one section after the other

  judging-ordered : ordered a.inputs (judging a) ≡ true
  judging-ordered =
      followed a.inputs a.literals (zero_gate a) (literals a ++ (counts a ++ ranks a)) refl zero-ordered
      (followed _ a.counts (literals a) _ (omega (arith, literals-length a)) literals-ordered
      (followed _ a.ranks (counts a) _ (omega (arith, counts-length a)) counts-ordered ranks-ordered))

  digits-ordered : ordered a.digits (rows (digit a) b) ≡ true
  unfolding digits_to
  digits-ordered =
      let e : a.digits ≡ a.digits + 0 = omega arith in
      ap (λ (k : ℕ). ordered k (rows (digit a) b)) e ∙ family_ordered (digit a) (digit_after a) b (digit-next a) digit-ordered

  weighing-ordered : ordered a.digits (weighing a) ≡ true
  weighing-ordered =
      followed _ a.keys (rows (digit a) b) _ (omega (arith, digits-length a)) digits-ordered
      (followed _ (a.keys + m * (1 + 0)) (key_sign a) _ (omega (arith, key_sign-length a)) key_sign-ordered
      (followed _ (a.keys + m * (1 + b)) (rows (key_digit a) b) _ (omega (arith, key_digits_length a))
      (family_ordered (key_digit a) (λ d. a.keys + m * (1 + d)) b (key_digit-next a) key_digit-ordered)
      (followed _ (a.keys + m * (2 + b)) (key_low a) _ (omega (arith, key_low-length a)) key_low-ordered key_high-ordered)))

  splits_ordered : ordered (node_at a (2 * 2 ^ 0)) (rows (split a) b) ≡ true
  splits_ordered = family_ordered (split a) (λ d. node_at a (2 * 2 ^ d)) b (split-next a) split-ordered

  choosing-ordered : ordered a.tree (choosing a) ≡ true
  choosing-ordered =
      followed _ (a.tree + tree_lane b) (bye a) _ (omega (arith, bye-length a)) bye-ordered
      (followed _ (a.tree + tree_lane b + tree_lane b * a.pairs) (pairs a) _ (omega (arith, pairs-length a)) pairs-ordered
      (followed _ a.greatest (nodes a) _ (omega (arith, nodes-length a)) nodes-ordered
      (followed _ a.rule (greatest a) _ (omega (arith, greatest-length a)) greatest-ordered
      (followed a.rule (a.rule + 13) (rule a) (root a ++ rows (split a) b) refl rule-ordered
      (followed (a.rule + 13) (node_at a (2 * 2 ^ 0)) (root a) (rows (split a) b) (omega arith) root-ordered splits_ordered)))))

  holding-ordered : ordered a.targets (holding a) ≡ true
  holding-ordered =
      followed _ a.guards (targets a) _ (omega (arith, targets-length a)) targets-ordered
      (followed _ a.selects (guards a) _ (omega (arith, guards-length a)) guards-ordered
      (followed _ (a.selects + 1 + 3 * n) (selects a) (select_end a) (omega (arith, selects-length a)) selects-ordered select_end_ordered))

  changing-ordered : ordered a.levels (changing a) ≡ true
  changing-ordered =
      followed _ (a.levels + a.block) (levels_t a) _ (omega (arith, levels_t-length a)) levels_t-ordered
      (followed _ (a.levels + 2 * a.block) (levels_f a) _ (omega (arith, levels_f-length a)) levels_f-ordered
      (followed _ a.assignments (levels_v a) _ (omega (arith, levels_v-length a)) levels_v-ordered
      (followed _ (a.assignments + 5 * n) (assign_t a) _ (omega (arith, assign_t-length a)) assign_t-ordered
      (followed _ a.depths (assign_f a) _ (omega (arith, assign_f-length a)) assign_f-ordered depths-ordered))))

  outputs-ordered : ordered a.outputs (outputs a) ≡ true
  outputs-ordered =
      followed _ (a.outputs + 2 * n) (next_assignment a) _ (omega (arith, next-assignment-length a)) next-assignment-ordered
      (followed _ (a.outputs + 3 * n + 1) (next_depth a) _ (omega (arith, next_depth_length a)) next_depth_ordered
      (followed _ (a.outputs + 3 * n + 1 + 3 * n * n) (rows (next_level a) n) (next_standing a) (omega (arith, next-levels-length a))
      (rows-ordered (next_level a) (3 * n) (a.outputs + 3 * n + 1) (next-level-length a) n next-level-ordered) next-standing-ordered))

  pub circuit-ordered : ordered a.inputs (circuit a) ≡ true
  circuit-ordered =
      followed _ a.digits (judging a) _ (omega (arith, judging-length a)) judging-ordered
      (followed _ a.tree (weighing a) _ (omega (arith, weighing-length a)) weighing-ordered
      (followed _ a.targets (choosing a) _ (omega (arith, choosing-length a)) choosing-ordered
      (followed _ a.levels (holding a) _ (omega (arith, holding-length a)) holding-ordered
      (followed _ a.outputs (changing a) _ (omega (arith, changing-length a)) changing-ordered outputs-ordered))))
