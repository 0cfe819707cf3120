-- How many gates and how many AND gates the circuit has: section by section, then in all, for both counts at once. Its gates are no more than
-- the ceiling, since a row's digits have fewer gates than twice the variables and five more.
use mathlib.Core.Path.{◌≡◌, refl, sym, ap, ap₂, ◌∙◌}
use mathlib.Core.Bool.{Bool}
use mathlib.Core.List.{List, ◌++◌}
use Prim.Native.Nat.{ℕ, zero, suc, ◌+◌, ◌*◌, ◌-◌, ◌/◌, ◌%◌, ◌^◌, ◌≤◌, ◌<◌, zero-le, suc-le-suc}
use native.Mathlib.Nat.{pow-suc, mul-le-mul_right, le_refl, pow-le-pow_right}
use native.Mathlib.Omega.{arith}
use lib.Dec.{leb}
use lib.ListN.{length}
use lib.Pow.{shr-shr}
use Rattle.words.specs.Sets.{lowest}
use Rattle.words.proofs.Truth.{on}
use Rattle.gates.specs.Gates.{Gate}
use Rattle.sections.specs.declared.Addresses.{Addresses}
use Rattle.sections.specs.Cells.{tree_lane}
use Rattle.sections.specs.Addressing.{digits_for, thresholds, digits_to, addresses_of, addresses}
use Rattle.sections.specs.Sections as Sections
use Rattle.sections.specs.Sections.{digit_after}
use Rattle.netlist.specs.Templates as Templates
use Rattle.netlist.specs.Arrays.{none, rows, cells}
use Rattle.netlist.specs.Netlist.{zero_gate, literals, counts, ranks, digit, key_sign, key_digit, key_low, bye, pairs, nodes, greatest, rule, root, split}
use Rattle.netlist.specs.Netlist.{targets, guards, selects, select_end, levels_t, levels_f, levels_v, assign_t, assign_f, next_assignment, next_depth}
use Rattle.netlist.specs.Netlist.{next_level, next_standing, judging, weighing, choosing, holding, changing, outputs, circuit, gates_for}
use Rattle.netlist.proofs.Sizes.{Count, all_gates, ands, ands_append, and_gates, rows-count, cells_count, lane_count, array_count}
use Rattle.netlist.proofs.Families.{family_end}

module _ (a : Addresses) where
  abbrev n : ℕ
  n = a.n

  abbrev m : ℕ
  m = a.m

  abbrev b : ℕ
  b = a.b

  -- ---- either count, by sections and by groups of sections

  module _ (c : Count) where
    -- k cells after z gates that are 0
    abbrev in_lane : ℕ → List Gate → ℕ → ℕ
    in_lane z t k = c.of Templates.sum * z + c.of t * k

    join : (xs ys : List Gate) (p q : ℕ) → c.of xs ≡ p → c.of ys ≡ q → c.of (xs ++ ys) ≡ p + q
    join xs ys p q e f = c.of_append xs ys ∙ ap₂ ◌+◌ e f

    judging-count : c.of (judging a)
        ≡ c.of Templates.sum + (in_lane 2 Templates.literal n * m + (in_lane 2 Templates.count n * m + c.of Templates.rank * m))
    judging-count =
        join (zero_gate a) (literals a ++ (counts a ++ ranks a)) _ _ (c.of_cell none a.inputs Templates.sum)
        (join (literals a) _ _ _ (array_count c 2 Templates.literal _ _ _ _ _ _)
        (join (counts a) _ _ _ (array_count c 2 Templates.count _ _ _ _ _ _) (cells_count c Templates.rank _ _ _ _)))

    weighing-count : c.of (weighing a)
        ≡ c.of (rows (digit a) b) + (c.of Templates.sum * m + (c.of (rows (key_digit a) b) + (c.of Templates.sum * m + c.of Templates.sum * m)))
    weighing-count =
        join (rows (digit a) b) _ _ _ refl
        (join (key_sign a) _ _ _ (cells_count c Templates.sum _ _ _ m)
        (join (rows (key_digit a) b) _ _ _ refl
        (join (key_low a) _ _ _ (cells_count c Templates.sum _ _ _ m) (cells_count c Templates.sum _ _ _ m))))

    choosing-count : c.of (choosing a)
        ≡ in_lane 1 Templates.bye (3 + b) + (in_lane 1 Templates.pair (3 + b) * a.pairs + (in_lane 1 Templates.node (3 + b) * a.nodes
        + (c.of Templates.choice * (3 + b) + (c.of Templates.rule + (c.of Templates.sum + c.of (rows (split a) b))))))
    choosing-count =
        join (bye a) _ _ _ (lane_count c 1 Templates.bye _ _ _ _)
        (join (pairs a) _ _ _ (array_count c 1 Templates.pair _ _ _ _ _ _)
        (join (nodes a) _ _ _ (array_count c 1 Templates.node _ _ _ _ _ _)
        (join (greatest a) _ _ _ (cells_count c Templates.choice _ _ _ _)
        (join (rule a) (root a ++ rows (split a) b) _ _ (c.of_cell (Sections.rule a).slots a.rule Templates.rule)
        (join (root a) (rows (split a) b) _ _ (c.of_cell (Sections.root a).slots (a.rule + 13) Templates.sum) refl)))))

    holding-count : c.of (holding a)
        ≡ c.of Templates.target * n + (in_lane 0 Templates.guard n * 2 + (in_lane 1 Templates.select n + c.of Templates.sum * 3))
    holding-count =
        join (targets a) _ _ _ (cells_count c Templates.target _ _ _ _)
        (join (guards a) _ _ _ (array_count c 0 Templates.guard _ _ _ _ 2 n)
        (join (selects a) (select_end a) _ _ (lane_count c 1 Templates.select _ _ _ _) (cells_count c Templates.sum _ _ _ 3)))

    changing-count : c.of (changing a)
        ≡ in_lane 1 Templates.level n * n + (in_lane 1 Templates.level n * n + (in_lane 1 Templates.level n * n
        + (c.of Templates.assignment * n + (c.of Templates.assignment * n + c.of Templates.sum * (n + 1)))))
    changing-count =
        join (levels_t a) _ _ _ (array_count c 1 Templates.level _ _ _ _ _ _)
        (join (levels_f a) _ _ _ (array_count c 1 Templates.level _ _ _ _ _ _)
        (join (levels_v a) _ _ _ (array_count c 1 Templates.level _ _ _ _ _ _)
        (join (assign_t a) _ _ _ (cells_count c Templates.assignment _ _ _ _)
        (join (assign_f a) _ _ _ (cells_count c Templates.assignment _ _ _ _) (cells_count c Templates.sum _ _ _ _)))))

    outputs-count : c.of (outputs a)
        ≡ in_lane 0 Templates.sum n * 2 + (c.of Templates.sum * (n + 1) + (in_lane 0 Templates.sum n * 3 * n + c.of Templates.standing))
    outputs-count =
        join (next_assignment a) _ _ _ (array_count c 0 Templates.sum _ _ _ _ 2 n)
        (join (next_depth a) _ _ _ (cells_count c Templates.sum _ _ _ (n + 1))
        (join (rows (next_level a) n) (next_standing a) _ _
        (rows-count c (next_level a) (in_lane 0 Templates.sum n * 3) (λ l. array_count c 0 Templates.sum _ _ _ _ 3 n) n)
        (c.of_cell (Sections.next_standing a).slots (a.outputs + 3 * n + 1 + 3 * n * n) Templates.standing)))

    circuit-count : c.of (circuit a)
        ≡ c.of (judging a) + (c.of (weighing a) + (c.of (choosing a) + (c.of (holding a) + (c.of (changing a) + c.of (outputs a)))))
    circuit-count =
        join (judging a) (weighing a ++ (choosing a ++ (holding a ++ (changing a ++ outputs a)))) _ _ refl
        (join (weighing a) (choosing a ++ (holding a ++ (changing a ++ outputs a))) _ _ refl
        (join (choosing a) (holding a ++ (changing a ++ outputs a)) _ _ refl
        (join (holding a) (changing a ++ outputs a) _ _ refl (c.of_append (changing a) (outputs a)))))

  -- ---- all gates, by sections

  pub literals-length : length (literals a) ≡ (2 + 12 * n) * m
  literals-length = array_count all_gates 2 Templates.literal _ _ _ _ _ _

  pub counts-length : length (counts a) ≡ (2 + 6 * n) * m
  counts-length = array_count all_gates 2 Templates.count _ _ _ _ _ _

  digit-length : (d : ℕ) → length (digit a d) ≡ (1 + thresholds n d) * m
  digit-length d = array_count all_gates 1 Templates.sum _ _ _ _ m (thresholds n d) ∙ omega arith

  pub digit-next : (d : ℕ) → d < b → digit_after a d + length (digit a d) ≡ digit_after a (suc d)
  unfolding digits_to
  digit-next d h = omega (arith, digit-length d)

  pub digits-length : length (rows (digit a) b) ≡ digits_to n m b
  unfolding digits_to
  digits-length = omega (arith, family_end (digit a) (digit_after a) b digit-next)

  -- a digit of all keys
  copies_length : (slots steps : List ℕ) (at : ℕ) → length (cells Templates.sum slots steps at m) ≡ m
  copies_length slots steps at = cells_count all_gates Templates.sum slots steps at m ∙ omega arith

  pub key_sign-length : length (key_sign a) ≡ m
  key_sign-length = copies_length _ _ _

  pub key_digit-next : (d : ℕ) → d < b → a.keys + m * (1 + d) + length (key_digit a d) ≡ a.keys + m * (1 + suc d)
  key_digit-next d h = let e : length (key_digit a d) ≡ m = copies_length _ _ _ in omega (arith, e)

  pub key_digits_length : length (rows (key_digit a) b) ≡ m * b
  key_digits_length = omega (arith, family_end (key_digit a) (λ d. a.keys + m * (1 + d)) b key_digit-next)

  pub key_low-length : length (key_low a) ≡ m
  key_low-length = copies_length _ _ _

  pub bye-length : length (bye a) ≡ tree_lane b
  bye-length = lane_count all_gates 1 Templates.bye _ _ _ _

  pub pairs-length : length (pairs a) ≡ tree_lane b * a.pairs
  pairs-length = array_count all_gates 1 Templates.pair _ _ _ _ _ _

  pub nodes-length : length (nodes a) ≡ tree_lane b * a.nodes
  nodes-length = array_count all_gates 1 Templates.node _ _ _ _ _ _

  pub greatest-length : length (greatest a) ≡ 2 * (3 + b)
  greatest-length = cells_count all_gates Templates.choice _ _ _ _

  pub split-next : (d : ℕ) → d < b → a.rule + 12 + 2 * 2 ^ d + length (split a d) ≡ a.rule + 12 + 2 * 2 ^ suc d
  split-next d h = let e : length (split a d) ≡ 2 * 2 ^ d = cells_count all_gates Templates.split _ _ _ _ in omega (arith, e, pow-suc 2 d)

  pub splits_length : 2 + length (rows (split a) b) ≡ 2 * 2 ^ b
  splits_length = omega (arith, family_end (split a) (λ d. a.rule + 12 + 2 * 2 ^ d) b split-next)

  pub targets-length : length (targets a) ≡ 3 * n
  targets-length = cells_count all_gates Templates.target _ _ _ _

  pub guards-length : length (guards a) ≡ 4 * n
  guards-length = array_count all_gates 0 Templates.guard _ _ _ _ 2 n ∙ omega arith

  pub selects-length : length (selects a) ≡ 1 + 3 * n
  selects-length = lane_count all_gates 1 Templates.select _ _ _ _

  pub levels_t-length : length (levels_t a) ≡ (1 + 3 * n) * n
  levels_t-length = array_count all_gates 1 Templates.level _ _ _ _ _ _

  pub levels_f-length : length (levels_f a) ≡ (1 + 3 * n) * n
  levels_f-length = array_count all_gates 1 Templates.level _ _ _ _ _ _

  pub levels_v-length : length (levels_v a) ≡ (1 + 3 * n) * n
  levels_v-length = array_count all_gates 1 Templates.level _ _ _ _ _ _

  pub assign_t-length : length (assign_t a) ≡ 5 * n
  assign_t-length = cells_count all_gates Templates.assignment _ _ _ _

  pub assign_f-length : length (assign_f a) ≡ 5 * n
  assign_f-length = cells_count all_gates Templates.assignment _ _ _ _

  pub next-assignment-length : length (next_assignment a) ≡ 2 * n
  next-assignment-length = array_count all_gates 0 Templates.sum _ _ _ _ 2 n ∙ omega arith

  pub next_depth_length : length (next_depth a) ≡ n + 1
  next_depth_length = cells_count all_gates Templates.sum _ _ _ (n + 1) ∙ omega arith

  pub next-level-length : (l : ℕ) → length (next_level a l) ≡ 3 * n
  next-level-length l = array_count all_gates 0 Templates.sum _ _ _ _ 3 n ∙ omega arith

  pub next-levels-length : length (rows (next_level a) n) ≡ 3 * n * n
  next-levels-length = rows-count all_gates (next_level a) (3 * n) next-level-length n

  -- ---- all gates, by groups

  pub judging-length : length (judging a) ≡ 1 + ((2 + 12 * n) * m + ((2 + 6 * n) * m + 5 * m))
  judging-length = judging-count all_gates

  pub weighing-length : length (weighing a) ≡ digits_to n m b + m * (3 + b)
  weighing-length = omega (arith, weighing-count all_gates, digits-length, key_digits_length)

  pub choosing-length : length (choosing a) ≡ tree_lane b + (tree_lane b * a.pairs + (tree_lane b * a.nodes + (2 * (3 + b) + (12 + 2 * 2 ^ b))))
  choosing-length = omega (arith, choosing-count all_gates, splits_length)

  pub holding-length : length (holding a) ≡ 3 * n + (4 * n + (4 + 3 * n))
  holding-length = omega (arith, holding-count all_gates)

  pub changing-length : length (changing a) ≡ (1 + 3 * n) * n + ((1 + 3 * n) * n + ((1 + 3 * n) * n + (5 * n + (5 * n + (n + 1)))))
  changing-length = omega (arith, changing-count all_gates)

  outputs-length : length (outputs a) ≡ 3 * (n * n) + 3 * n + 4
  outputs-length = omega (arith, outputs-count all_gates)

  -- ---- AND gates

  splits_ands : (d : ℕ) → 1 + ands (rows (split a) d) ≡ 2 ^ d
  splits_ands zero = refl
  splits_ands (suc d) =
      let e : ands (split a d) ≡ 1 * 2 ^ d = cells_count and_gates Templates.split _ _ _ _ in
      omega (arith, ands_append (rows (split a) d) (split a d), splits_ands d, e, pow-suc 2 d)

  digits-ands : ands (rows (digit a) b) ≡ 0 * b
  digits-ands = rows-count and_gates (digit a) 0 (λ d. array_count and_gates 1 Templates.sum _ _ _ _ m (thresholds n d) ∙ omega arith) b

  key_digits_ands : ands (rows (key_digit a) b) ≡ 0 * b
  key_digits_ands = rows-count and_gates (key_digit a) 0 (λ d. cells_count and_gates Templates.sum _ _ _ m ∙ omega arith) b

  circuit-ands : ands (circuit a) ≡ 5 * (m * n) + 3 * (n * n) + (a.pairs + 3 * a.nodes + 1) * (b + 3) + 2 * m + 7 * n + 2 ^ b + 4
  circuit-ands =
      circuit-count and_gates
      ∙ omega (
        arith,
        judging-count and_gates,
        weighing-count and_gates,
        choosing-count and_gates,
        holding-count and_gates,
        changing-count and_gates,
        outputs-count and_gates,
        digits-ands,
        key_digits_ands,
        splits_ands b,
      )

-- the circuit's wires begin after the inputs and end where the addresses say
pub circuit-length : (n m b : ℕ) → (addresses_of n m b).inputs + length (circuit (addresses_of n m b)) ≡ (addresses_of n m b).wires
circuit-length n m b =
    let a = addresses_of n m b in
    omega (
      arith,
      circuit-count a all_gates,
      judging-length a,
      weighing-length a,
      choosing-length a,
      holding-length a,
      changing-length a,
      outputs-length a,
    )

-- AND gates, with b digits of a variable's number: 5mn + 3n² + (2m - 2 + m mod 2)(b + 3) + 2m + 7n + 2^b + 4
pub gates_ands : (n m : ℕ) → 0 < m → let b = digits_for n in
    ands (gates_for n m) ≡ 5 * (m * n) + 3 * (n * n) + (2 * m - 2 + m % 2) * (b + 3) + 2 * m + 7 * n + 2 ^ b + 4
unfolding gates_for
gates_ands n m a-row =
    let b = digits_for n in
    let a = addresses n m in
    let e : a.pairs + 3 * a.nodes + 1 ≡ 2 * m - 2 + m % 2 = omega arith in
    circuit-ands a ∙ ap (λ (k : ℕ). 5 * (m * n) + 3 * (n * n) + k * (b + 3) + 2 * m + 7 * n + 2 ^ b + 4) e

-- ---- the ceiling

-- the digits' gates for one row
tally : ℕ → ℕ → ℕ
tally n zero = 0
tally n (suc d) = tally n d + (1 + thresholds n d)

tally_rows : (n m d : ℕ) → digits_to n m d ≡ tally n d * m
unfolding digits_to tally
tally_rows n m zero = omega arith
tally_rows n m (suc d) = omega (arith, tally_rows n m d)

halved : (n d : ℕ) → 2 * thresholds n (suc d) ≤ thresholds n d
halved n d =
    let next : suc d ≡ d + 1 = omega arith in
    let e : (n - 1) / 2 ^ suc d ≡ (n - 1) / 2 ^ d / 2 = ap (λ (k : ℕ). (n - 1) / 2 ^ k) next ∙ sym (shr-shr (n - 1) d 1) in
    omega (arith, e)

tally_low : (n d : ℕ) → tally n d + 2 * thresholds n d ≤ d + 2 * (n - 1)
unfolding tally
tally_low n zero = omega arith
tally_low n (suc d) = omega (arith, tally_low n d, halved n d)

lowest-most : (p : ℕ → Bool) (k : ℕ) → lowest p k ≤ k
unfolding lowest
lowest-most p zero = le_refl 0
lowest-most p (suc k) = on (p zero) (λ e. rw (e, lowest) zero-le) (λ e. rw (e, lowest) (suc-le-suc (lowest-most (λ i. p (suc i)) k)))

digits-few : (n : ℕ) → (digits_for n ≤ 5) × (2 ^ digits_for n ≤ 32)
digits-few n = let few = lowest-most (λ b. leb n (2 ^ b)) 5 in (few, power (digits_for n) few)
  where
    power : (b : ℕ) → b ≤ 5 → 2 ^ b ≤ 32
    power b h = pow-le-pow_right (omega arith) h

-- no more gates than the ceiling
pub gates_length : (n m : ℕ) → 0 < n → 0 < m → length (gates_for n m) ≤ 64 * (m + n + 1) * (n + 1)
unfolding gates_for
gates_length n m a-variable a-row =
    let a = addresses n m in
    let b = digits_for n in
    let few : tally n b ≤ 5 + 2 * n = omega (arith, tally_low n b, digits-few n) in
    omega (
      arith,
      circuit-length n m b,
      tally_rows n m b,
      mul-le-mul_right m few,
      mul-le-mul_right m (digits-few n).0,
      mul-le-mul_right a.pairs (digits-few n).0,
      mul-le-mul_right a.nodes (digits-few n).0,
      mul-le-mul_right n a-variable,
      mul-le-mul_right m a-variable,
      digits-few n,
    )
