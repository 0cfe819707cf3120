-- The second half of the circuit meets its equations, from the rule to the output: for each section one law says what a gate of its cells
-- gives on the wires that the cell takes, and each equation is that law at one gate, the template computed.
use mathlib.Core.Path.{◌≡◌, refl, ap, ap₂, sym, ◌∙◌}
use mathlib.Core.Bool.{Bool, ◌&&◌}
use mathlib.Core.List.{List}
use Prim.Native.Nat.{ℕ, suc, ◌+◌, ◌*◌, ◌-◌, ◌^◌, ◌<◌}
use native.Mathlib.Omega.{arith}
use Rattle.words.specs.Booleans.{◌⊕◌}
use Rattle.gates.specs.Gates.{wires_of}
use Rattle.gates.proofs.Circuits.{ordered}
use Rattle.sections.specs.declared.Addresses.{Addresses}
use Rattle.sections.specs.Cells as Cells
use Rattle.sections.specs.Cells.{level_lane}
use Rattle.sections.specs.Sections.{two, three, four, six}
use Rattle.sections.specs.Sections as Numbers
use Rattle.netlist.specs.Templates as Templates
use Rattle.netlist.proofs.Chains.{xor_false}
use Rattle.netlist.proofs.Arrays.{cell_at, cells_at, lane-at, array_at, zeros-at, lane-zero, array-zero}
use Rattle.netlist.proofs.Changes.{Wires, Changes}
use Rattle.netlist.proofs.SectionGates.{Sections}
use Rattle.netlist.proofs.Wiring.{gate_on, second_wires, zero-wire}

module _ (W : ℕ → Bool) (a : Addresses) where
  abbrev n : ℕ
  n = a.n

  abbrev b : ℕ
  b = a.b

  abbrev lrow : ℕ
  lrow = level_lane n

  abbrev w : Wires
  w = second_wires W a

  -- the state's wires for satisfied and refuted
  abbrev satisfied_at : ℕ
  satisfied_at = a.state + (n + (n + (suc n + ((n + (n + n)) * n + 0))))

  abbrev refuted_at : ℕ
  refuted_at = a.state + (n + (n + (suc n + ((n + (n + n)) * n + 1))))

  module _ (s : Sections W a) (e : a.standing ≡ a.state + 3 * n + 1 + 3 * (n * n)) where
    abbrev rule_wires : List ℕ
    rule_wires =
        six satisfied_at refuted_at (Numbers.greatest_at a (2 + b)) (Numbers.greatest_at a (1 + b)) (a.greatest + Cells.kept) (a.state + (n + (n + 0)))

    rule_gate : (k x : ℕ) → k < 13 → x ≡ a.rule + k → W x ≡ gate_on W rule_wires Templates.rule k
    unfolding ordered
    rule_gate = cell_at W Templates.rule refl (Numbers.rule a).slots a.rule s.rule-holds rule_wires (omega (arith, e)) refl

    abbrev target_wires : ℕ → List ℕ
    target_wires i = three (Numbers.node_at a (2 ^ b) + (2 ^ b - n) + i) (a.rule + Cells.set_f) (a.rule + Cells.push)

    target_gate : (i : ℕ) → i < n → (k x : ℕ) → k < 3 → x ≡ a.targets + 3 * i + k → W x ≡ gate_on W (target_wires i) Templates.target k
    unfolding ordered
    target_gate i h = cells_at W Templates.target refl _ _ _ _ s.targets_hold i h (target_wires i) (omega arith) refl

    -- T in lane 0, F in lane 1
    guard_gate : (j i : ℕ) → j < 2 → i < n → (y : ℕ) → y ≡ a.state + n * j + i → (k x : ℕ) → k < 2 → x ≡ a.guards + 2 * n * j + 2 * i + k
        → W x ≡ gate_on W (three y (a.rule + Cells.pop) (a.rule + Cells.push)) Templates.guard k
    unfolding ordered
    guard_gate j i h g y ey k x u ex =
        array_at W Templates.guard refl 0 _ _ _ _ _ _ s.guards_hold j i h g (three y (a.rule + Cells.pop) (a.rule + Cells.push))
        (omega arith) refl k x u (omega arith)

    select-wire : (k : ℕ) → k < n
        → w.changes (suc k) ≡ (W (a.rule + Cells.push) ⊕ W (a.state + (n + (n + suc k)))) && (W (a.rule + Cells.pop) ⊕ W (a.state + (n + (n + k))))
    unfolding wires_of ordered
    select-wire k h =
        lane-at W Templates.select refl 1 _ _ _ _ s.selects_hold k h
        (four (a.rule + Cells.push) (a.state + (n + (n + suc k))) (a.rule + Cells.pop) (a.state + (n + (n + k)))) (omega arith) refl 2 _ (omega arith)
        (omega arith)

    -- level k's wire y of its three sets, what is pushed onto it, and the total before
    abbrev level_wires : ℕ → ℕ → ℕ → ℕ → List ℕ
    level_wires k y pushed total =
        four (a.selects + 3 * suc k) (a.state + (n + (n + (suc n + ((n + (n + n)) * k + y))))) pushed total

    level_t_gate : (i k : ℕ) → i < n → k < n → (g x : ℕ) → g < 3 → x ≡ a.levels + lrow * i + 1 + 3 * k + g
        → W x ≡ gate_on W (level_wires k i (a.guards + 1 + 2 * i) (a.levels + lrow * i + 3 * k)) Templates.level g
    unfolding ordered
    level_t_gate i k h q = array_at W Templates.level refl 1 _ _ _ _ _ _ s.levels_t_hold i k h q (level_wires k i _ _) (omega arith) refl

    level_f_gate : (i k : ℕ) → i < n → k < n → (g x : ℕ) → g < 3 → x ≡ a.levels + a.block + lrow * i + 1 + 3 * k + g
        → W x ≡ gate_on W (level_wires k (n + i) (a.guards + 2 * n + 1 + 2 * i) (a.levels + a.block + lrow * i + 3 * k)) Templates.level g
    unfolding ordered
    level_f_gate i k h q = array_at W Templates.level refl 1 _ _ _ _ _ _ s.levels_f_hold i k h q (level_wires k (n + i) _ _) (omega arith) refl

    level_v_gate : (i k : ℕ) → i < n → k < n → (g x : ℕ) → g < 3 → x ≡ a.levels + 2 * a.block + lrow * i + 1 + 3 * k + g
        → W x ≡ gate_on W (level_wires k (n + (n + i)) (a.targets + 1 + 3 * i) (a.levels + 2 * a.block + lrow * i + 3 * k)) Templates.level g
    unfolding ordered
    level_v_gate i k h q = array_at W Templates.level refl 1 _ _ _ _ _ _ s.levels_v_hold i k h q (level_wires k (n + (n + i)) _ _) (omega arith) refl

    standing_gate : (k x : ℕ) → k < 3 → x ≡ a.outputs + 3 * n + 1 + 3 * n * n + k
        → W x ≡ gate_on W (four satisfied_at (a.rule + Cells.done) refuted_at (a.rule + Cells.refute)) Templates.standing k
    unfolding ordered
    standing_gate =
        cell_at W Templates.standing refl (Numbers.next_standing a).slots (a.outputs + 3 * n + 1 + 3 * n * n) s.next-standing-holds
        (four satisfied_at (a.rule + Cells.done) refuted_at (a.rule + Cells.refute)) (omega (arith, e)) refl

    assign_t-wire : (i : ℕ) → i < n
        → w.δT i ≡ ((((w.pop_t i ⊕ w.total_t i n) ⊕ w.push_t i) ⊕ w.sets_t i) ⊕ W a.inputs) ⊕ W a.inputs
    unfolding wires_of ordered
    assign_t-wire i h =
        cells_at W Templates.assignment refl _ _ _ _ s.assign_t-holds i h
        (six (a.guards + 2 * i) (a.levels + lrow * i + 3 * n) (a.guards + 1 + 2 * i) (a.targets + 2 + 3 * i) a.inputs a.inputs)
        (omega arith) refl 4 _ (omega arith) (omega arith)

    assign_f-wire : (i : ℕ) → i < n
        → w.δF i ≡ ((((w.pop_f i ⊕ w.total_f i n) ⊕ w.push_f i) ⊕ w.total_v i n) ⊕ w.pushed i) ⊕ w.sets_f i
    unfolding wires_of ordered
    assign_f-wire i h =
        cells_at W Templates.assignment refl _ _ _ _ s.assign_f-holds i h
        (six (a.guards + 2 * n + 2 * i) (a.levels + a.block + lrow * i + 3 * n) (a.guards + 2 * n + 1 + 2 * i)
        (a.levels + 2 * a.block + lrow * i + 3 * n) (a.targets + 1 + 3 * i) (a.targets + 3 * i))
        (omega arith) refl 4 _ (omega arith) (omega arith)

    assignment-sum : (j i : ℕ) → j < 2 → i < n → (x y z : ℕ) → y ≡ a.state + n * j + i → z ≡ a.assignments + 4 + 5 * n * j + 5 * i
        → x ≡ a.outputs + n * j + i → W x ≡ W y ⊕ W z
    unfolding wires_of ordered
    assignment-sum j i h g x y z ey ez ex =
        array_at W Templates.sum refl 0 _ _ _ _ _ _ s.next-assignment-holds j i h g (two y z) (omega arith) refl 0 x (omega arith) (omega arith)

    level-sum : (k j i : ℕ) → k < n → j < 3 → i < n → (x y z : ℕ) → y ≡ a.state + 3 * n + 1 + 3 * n * k + n * j + i
        → z ≡ a.levels + 2 + 3 * k + a.block * j + lrow * i
        → x ≡ a.outputs + 3 * n + 1 + 3 * n * k + n * j + i → W x ≡ W y ⊕ W z
    unfolding wires_of ordered
    level-sum k j i hk h g x y z ey ez ex =
        array_at W Templates.sum refl 0 _ _ _ _ _ _ (s.next-level-holds k hk) j i h g (two y z) (omega arith) refl 0 x (omega arith) (omega arith)

    pub changes_met : Changes n w
    unfolding wires_of ordered
    changes_met = record {
      rule-is = λ k. record {
        done = rule_gate Cells.done (a.rule + Cells.done) (omega arith) refl k;
        refute = rule_gate Cells.refute (a.rule + Cells.refute) (omega arith) refl k;
        pop = rule_gate Cells.pop (a.rule + Cells.pop) (omega arith) refl k;
        push = rule_gate Cells.push (a.rule + Cells.push) (omega arith) refl k;
        set_f = rule_gate Cells.set_f (a.rule + Cells.set_f) (omega arith) refl k;
        set_t = rule_gate Cells.act (a.rule + Cells.act) (omega arith) refl k ⊕ rule_gate Cells.set_f (a.rule + Cells.set_f) (omega arith) refl k;
      };
      act-is = rule_gate Cells.act _ (omega arith) refl;
      sets_f_is = λ i h. target_gate i h 0 _ (omega arith) (omega arith);
      pushed-is = λ i h. target_gate i h Cells.pushed _ (omega arith) (omega arith);
      sets_t-is = λ i h. target_gate i h Cells.sets_t _ (omega arith) (omega arith);
      pop_t_is = λ i h. guard_gate 0 i (omega arith) h _ (omega arith) 0 _ (omega arith) (omega arith);
      push_t_is = λ i h. guard_gate 0 i (omega arith) h _ (omega arith) 1 _ (omega arith) (omega arith);
      pop_f_is = λ i h. guard_gate 1 i (omega arith) h _ (omega arith) 0 _ (omega arith) (omega arith);
      push_f_is = λ i h. guard_gate 1 i (omega arith) h _ (omega arith) 1 _ (omega arith) (omega arith);
      changes_zero = lane-zero W 1 Templates.select _ _ _ _ s.selects_hold 0 _ (omega arith) (omega arith);
      changes_suc = select-wire;
      changes_end = zeros-at W _ 3 s.select_end_holds 2 _ (omega arith) (omega arith);
      δlevel_t_is = λ k i h g. level_t_gate i k g h 1 _ (omega arith) (omega arith);
      δlevel_f_is = λ k i h g. level_f_gate i k g h 1 _ (omega arith) (omega arith);
      δchosen-is = λ k i h g. level_v_gate i k g h 1 _ (omega arith) (omega arith);
      total_t_zero = λ i h. array-zero W 1 Templates.level _ _ _ _ _ _ s.levels_t_hold i h 0 _ (omega arith) (omega arith);
      total_t_suc = λ i k h g. level_t_gate i k h g 2 _ (omega arith) (omega arith)
          ∙ ap (λ (x : Bool). w.total_t i k ⊕ x) (sym (level_t_gate i k h g 1 (a.levels + 2 + lrow * i + 3 * k) (omega arith) (omega arith)));
      total_f_zero = λ i h. array-zero W 1 Templates.level _ _ _ _ _ _ s.levels_f_hold i h 0 _ (omega arith) (omega arith);
      total_f_suc = λ i k h g. level_f_gate i k h g 2 _ (omega arith) (omega arith)
          ∙ ap (λ (x : Bool). w.total_f i k ⊕ x)
          (sym (level_f_gate i k h g 1 (a.levels + a.block + 2 + lrow * i + 3 * k) (omega arith) (omega arith)));
      total_v_zero = λ i h. array-zero W 1 Templates.level _ _ _ _ _ _ s.levels_v_hold i h 0 _ (omega arith) (omega arith);
      total_v_suc = λ i k h g. level_v_gate i k h g 2 _ (omega arith) (omega arith)
          ∙ ap (λ (x : Bool). w.total_v i k ⊕ x)
          (sym (level_v_gate i k h g 1 (a.levels + 2 * a.block + 2 + lrow * i + 3 * k) (omega arith) (omega arith)));
      δt_is = λ i h. assign_t-wire i h
          ∙ ap₂ (λ (x y : Bool). ((((w.pop_t i ⊕ w.total_t i n) ⊕ w.push_t i) ⊕ w.sets_t i) ⊕ x) ⊕ y) (zero-wire W a s) (zero-wire W a s)
          ∙ xor_false _ ∙ xor_false (((w.pop_t i ⊕ w.total_t i n) ⊕ w.push_t i) ⊕ w.sets_t i);
      δf_is = assign_f-wire;
      δdepth-is = λ k h. cells_at W Templates.sum refl _ _ _ _ s.depths_hold k (omega arith) (two (a.selects + 3 * k) (a.selects + 3 * suc k))
          (omega arith) refl 0 _ (omega arith) (omega arith);
      t_is = λ i h. assignment-sum 0 i (omega arith) h _ _ _ (omega arith) (omega arith) (omega arith);
      f_is = λ i h. assignment-sum 1 i (omega arith) h _ _ _ (omega arith) (omega arith) (omega arith);
      depth_is = λ k h. cells_at W Templates.sum refl _ _ _ _ s.next_depth_holds k (omega arith) (two (a.state + (n + (n + k))) (a.depths + k))
          (omega arith) refl 0 _ (omega arith) (omega arith);
      level_t_is = λ k i h g. level-sum k 0 i h (omega arith) g _ _ _ (omega arith) (omega arith) (omega arith);
      level_f_is = λ k i h g. level-sum k 1 i h (omega arith) g _ _ _ (omega arith) (omega arith) (omega arith);
      chosen_is = λ k i h g. level-sum k 2 i h (omega arith) g _ _ _ (omega arith) (omega arith) (omega arith);
      satisfied-is = standing_gate 0 _ (omega arith) (omega arith);
      refuted-is = standing_gate 1 _ (omega arith) (omega arith);
      closing-is =
          standing_gate 2 _ (omega arith) refl
          ∙ sym (ap₂ ◌⊕◌ (standing_gate 0 _ (omega arith) (omega arith)) (standing_gate 1 _ (omega arith) (omega arith)));
    }
