-- The circuit taken apart: where the circuit's gates hold, each section's gates hold at its address. The lengths of the sections give the addresses.
use mathlib.Core.Path.{◌≡◌, refl, subst}
use mathlib.Core.Bool.{Bool}
use mathlib.Core.List.{List, ◌++◌}
use Prim.Native.Nat.{ℕ, ◌+◌, ◌*◌, ◌^◌, ◌<◌}
use native.Mathlib.Omega.{arith}
use lib.ListN.{length}
use Rattle.gates.specs.Gates.{Gate}
use Rattle.sections.specs.declared.Addresses.{Addresses}
use Rattle.sections.specs.Cells.{tree_lane}
use Rattle.sections.specs.Addressing.{digits_to, addresses_of}
use Rattle.sections.specs.Sections.{digit_after, node_at}
use Rattle.netlist.specs.Arrays.{rows}
use Rattle.netlist.specs.Netlist.{zero_gate, literals, counts, ranks, digit, key_sign, key_digit, key_low, key_high, bye, pairs, nodes, greatest, rule, root}
use Rattle.netlist.specs.Netlist.{split, targets, guards, selects, select_end, levels_t, levels_f, levels_v, assign_t, assign_f, depths, next_assignment}
use Rattle.netlist.specs.Netlist.{next_depth, next_level, next_standing, judging, weighing, choosing, holding, changing, circuit}
use Rattle.netlist.proofs.Values.{Holds, holds-left, holds_right, holds_rows}
use Rattle.netlist.proofs.Families.{family_holds}
use Rattle.netlist.proofs.Counts.{literals-length, counts-length, digit-next, digits-length, key_sign-length, key_digit-next, key_digits_length}
use Rattle.netlist.proofs.Counts.{key_low-length, bye-length, pairs-length, nodes-length, greatest-length, split-next, targets-length, guards-length}
use Rattle.netlist.proofs.Counts.{selects-length, levels_t-length, levels_f-length, levels_v-length, assign_t-length, assign_f-length}
use Rattle.netlist.proofs.Counts.{next-assignment-length, next_depth_length, next-level-length, next-levels-length, judging-length, weighing-length}
use Rattle.netlist.proofs.Counts.{choosing-length, holding-length, changing-length}

-- each section's gates hold of the wires
pub record Sections (W : ℕ → Bool) (a : Addresses) : Type 0 where
  pub zero_gate-holds : Holds W a.inputs (zero_gate a)
  pub literals_hold : Holds W a.literals (literals a)
  pub counts_hold : Holds W a.counts (counts a)
  pub ranks_hold : Holds W a.ranks (ranks a)
  pub digit-holds : (d : ℕ) → d < a.b → Holds W (digit_after a d) (digit a d)
  pub key_sign-holds : Holds W a.keys (key_sign a)
  pub key_digit-holds : (d : ℕ) → d < a.b → Holds W (a.keys + a.m * (1 + d)) (key_digit a d)
  pub key_low-holds : Holds W (a.keys + a.m * (1 + a.b)) (key_low a)
  pub key_high-holds : Holds W (a.keys + a.m * (2 + a.b)) (key_high a)
  pub bye-holds : Holds W a.tree (bye a)
  pub pairs_hold : Holds W (a.tree + tree_lane a.b) (pairs a)
  pub nodes_hold : Holds W (a.tree + tree_lane a.b + tree_lane a.b * a.pairs) (nodes a)
  pub greatest-holds : Holds W a.greatest (greatest a)
  pub rule-holds : Holds W a.rule (rule a)
  pub root-holds : Holds W (a.rule + 13) (root a)
  pub split-holds : (d : ℕ) → d < a.b → Holds W (node_at a (2 * 2 ^ d)) (split a d)
  pub targets_hold : Holds W a.targets (targets a)
  pub guards_hold : Holds W a.guards (guards a)
  pub selects_hold : Holds W a.selects (selects a)
  pub select_end_holds : Holds W (a.selects + 1 + 3 * a.n) (select_end a)
  pub levels_t_hold : Holds W a.levels (levels_t a)
  pub levels_f_hold : Holds W (a.levels + a.block) (levels_f a)
  pub levels_v_hold : Holds W (a.levels + 2 * a.block) (levels_v a)
  pub assign_t-holds : Holds W a.assignments (assign_t a)
  pub assign_f-holds : Holds W (a.assignments + 5 * a.n) (assign_f a)
  pub depths_hold : Holds W a.depths (depths a)
  pub next-assignment-holds : Holds W a.outputs (next_assignment a)
  pub next_depth_holds : Holds W (a.outputs + 2 * a.n) (next_depth a)
  pub next-level-holds : (l : ℕ) → l < a.n → Holds W (a.outputs + 3 * a.n + 1 + 3 * a.n * l) (next_level a l)
  pub next-standing-holds : Holds W (a.outputs + 3 * a.n + 1 + 3 * a.n * a.n) (next_standing a)

module _ (W : ℕ → Bool) (n m b : ℕ) where
  abbrev a : Addresses
  a = addresses_of n m b

  -- what follows gates from wire x on begins at wire y
  behind : (x y : ℕ) (xs ys : List Gate) → Holds W x (xs ++ ys) → x + length xs ≡ y → Holds W y ys
  behind x y xs ys h e = subst (λ (k : ℕ). Holds W k ys) e (holds_right W x xs ys h)

  pub sections : Holds W a.inputs (circuit a) → Sections W a
  unfolding digits_to
  sections h =
      -- the groups, then the sections of each
      let weigh = behind _ a.digits (judging a) _ h (omega (arith, judging-length a)) in
      let choose = behind _ a.tree (weighing a) _ weigh (omega (arith, weighing-length a)) in
      let keep = behind _ a.targets (choosing a) _ choose (omega (arith, choosing-length a)) in
      let change = behind _ a.levels (holding a) _ keep (omega (arith, holding-length a)) in
      let output = behind _ a.outputs (changing a) _ change (omega (arith, changing-length a)) in
      let judged = holds-left W _ (judging a) _ h in
      let judged₁ = behind a.inputs a.literals (zero_gate a) (literals a ++ (counts a ++ ranks a)) judged refl in
      let judged₂ = behind _ a.counts (literals a) _ judged₁ (omega (arith, literals-length a)) in
      let weighed = holds-left W _ (weighing a) _ weigh in
      let weighed₁ = behind _ a.keys (rows (digit a) b) _ weighed (omega (arith, digits-length a)) in
      let weighed₂ = behind _ (a.keys + m * (1 + 0)) (key_sign a) _ weighed₁ (omega (arith, key_sign-length a)) in
      let weighed₃ = behind _ (a.keys + m * (1 + b)) (rows (key_digit a) b) _ weighed₂ (omega (arith, key_digits_length a)) in
      let chosen = holds-left W _ (choosing a) _ choose in
      let chosen₁ = behind _ (a.tree + tree_lane b) (bye a) _ chosen (omega (arith, bye-length a)) in
      let chosen₂ = behind _ (a.tree + tree_lane b + tree_lane b * a.pairs) (pairs a) _ chosen₁ (omega (arith, pairs-length a)) in
      let chosen₃ = behind _ a.greatest (nodes a) _ chosen₂ (omega (arith, nodes-length a)) in
      let chosen₄ = behind _ a.rule (greatest a) _ chosen₃ (omega (arith, greatest-length a)) in
      let chosen₅ = behind a.rule (a.rule + 13) (rule a) (root a ++ rows (split a) b) chosen₄ refl in
      let held = holds-left W _ (holding a) _ keep in
      let held₁ = behind _ a.guards (targets a) _ held (omega (arith, targets-length a)) in
      let held₂ = behind _ a.selects (guards a) _ held₁ (omega (arith, guards-length a)) in
      let changed = holds-left W _ (changing a) _ change in
      let changed₁ = behind _ (a.levels + a.block) (levels_t a) _ changed (omega (arith, levels_t-length a)) in
      let changed₂ = behind _ (a.levels + 2 * a.block) (levels_f a) _ changed₁ (omega (arith, levels_f-length a)) in
      let changed₃ = behind _ a.assignments (levels_v a) _ changed₂ (omega (arith, levels_v-length a)) in
      let changed₄ = behind _ (a.assignments + 5 * n) (assign_t a) _ changed₃ (omega (arith, assign_t-length a)) in
      let output₁ = behind _ (a.outputs + 2 * n) (next_assignment a) _ output (omega (arith, next-assignment-length a)) in
      let output₂ = behind _ (a.outputs + 3 * n + 1) (next_depth a) _ output₁ (omega (arith, next_depth_length a)) in
      record {
        zero_gate-holds = holds-left W a.inputs (zero_gate a) (literals a ++ (counts a ++ ranks a)) judged;
        literals_hold = holds-left W _ (literals a) _ judged₁;
        counts_hold = holds-left W _ (counts a) _ judged₂;
        ranks_hold = behind _ a.ranks (counts a) _ judged₂ (omega (arith, counts-length a));
        digit-holds =
            family_holds (digit a) (digit_after a) b (digit-next a) W
            (subst (λ (k : ℕ). Holds W k (rows (digit a) b)) (omega arith) (holds-left W _ (rows (digit a) b) _ weighed));
        key_sign-holds = holds-left W _ (key_sign a) _ weighed₁;
        key_digit-holds = family_holds (key_digit a) (λ d. a.keys + m * (1 + d)) b (key_digit-next a) W (holds-left W _ (rows (key_digit a) b) _ weighed₂);
        key_low-holds = holds-left W _ (key_low a) _ weighed₃;
        key_high-holds = behind _ (a.keys + m * (2 + b)) (key_low a) _ weighed₃ (omega (arith, key_low-length a));
        bye-holds = holds-left W _ (bye a) _ chosen;
        pairs_hold = holds-left W _ (pairs a) _ chosen₁;
        nodes_hold = holds-left W _ (nodes a) _ chosen₂;
        greatest-holds = holds-left W _ (greatest a) _ chosen₃;
        rule-holds = holds-left W a.rule (rule a) (root a ++ rows (split a) b) chosen₄;
        root-holds = holds-left W (a.rule + 13) (root a) (rows (split a) b) chosen₅;
        split-holds = family_holds (split a) (λ d. node_at a (2 * 2 ^ d)) b (split-next a) W
            (behind (a.rule + 13) (node_at a (2 * 2 ^ 0)) (root a) (rows (split a) b) chosen₅ (omega arith));
        targets_hold = holds-left W _ (targets a) _ held;
        guards_hold = holds-left W _ (guards a) _ held₁;
        selects_hold = holds-left W _ (selects a) _ held₂;
        select_end_holds = behind _ (a.selects + 1 + 3 * n) (selects a) _ held₂ (omega (arith, selects-length a));
        levels_t_hold = holds-left W _ (levels_t a) _ changed;
        levels_f_hold = holds-left W _ (levels_f a) _ changed₁;
        levels_v_hold = holds-left W _ (levels_v a) _ changed₂;
        assign_t-holds = holds-left W _ (assign_t a) _ changed₃;
        assign_f-holds = holds-left W _ (assign_f a) _ changed₄;
        depths_hold = behind _ a.depths (assign_f a) _ changed₄ (omega (arith, assign_f-length a));
        next-assignment-holds = holds-left W _ (next_assignment a) _ output;
        next_depth_holds = holds-left W _ (next_depth a) _ output₁;
        next-level-holds =
            holds_rows W (next_level a) (3 * n) (a.outputs + 3 * n + 1) (next-level-length a) n (holds-left W _ (rows (next_level a) n) _ output₂);
        next-standing-holds = behind _ (a.outputs + 3 * n + 1 + 3 * n * n) (rows (next_level a) n) _ output₂ (omega (arith, next-levels-length a));
      }
