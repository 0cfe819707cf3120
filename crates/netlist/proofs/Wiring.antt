-- The wires of the circuit's two halves by name, the parts of both that are the same wires, and the wire that is 0.
use mathlib.Core.Path.{◌≡◌, refl, ap, ◌∙◌}
use mathlib.Core.Bool.{Bool, true, false}
use mathlib.Core.List.{List, map}
use Prim.Native.Nat.{ℕ, suc, ◌+◌, ◌*◌, ◌-◌, ◌^◌}
use native.Mathlib.Omega.{arith}
use Rattle.words.specs.Booleans.{◌⊕◌}
use Rattle.gates.specs.Gates.{Gate, wire, wires_of}
use Rattle.gates.proofs.Circuits.{ordered}
use Rattle.wires.specs.Bits.{state_at}
use Rattle.sections.specs.declared.Addresses.{Addresses}
use Rattle.sections.specs.Cells as Cells
use Rattle.sections.specs.Addressing.{thresholds, levels_from}
use Rattle.sections.specs.Sections.{digit_after, guards_f}
use Rattle.netlist.specs.Templates as Templates
use Rattle.netlist.specs.Arrays.{none}
use Rattle.netlist.proofs.Chains.{xor_false, xor_self}
use Rattle.netlist.proofs.Arrays.{cell_at}
use Rattle.netlist.proofs.Equations as First
use Rattle.netlist.proofs.Changes as Second
use Rattle.netlist.proofs.Steps.{Joined}
use Rattle.netlist.proofs.SectionGates.{Sections}

-- gate k of a cell that takes these wires
abbrev pub gate_on : (ℕ → Bool) → List ℕ → List Gate → ℕ → Bool
gate_on W slots template k = wire (wires_of (map W slots) template) (8 + k)

-- a wire and a gate that is 0, made of it
pub again : (x : Bool) → x ⊕ (x ⊕ x) ≡ x
again true = refl
again false = refl

module _ (W : ℕ → Bool) (a : Addresses) where
  abbrev n : ℕ
  n = a.n

  abbrev b : ℕ
  b = a.b

  abbrev pub first_wires : First.Wires
  first_wires = record {
    p = λ j i. W (2 * n * j + i);
    q = λ j i. W (2 * n * j + n + i);
    T = λ i. W (a.state + i);
    F = λ i. W (a.state + n + i);
    satisfied = λ j i. W (a.literals + Cells.literal_lane n * j + (Cells.literal).size * i);
    sign = λ j i. W (a.literals + Cells.sign + Cells.literal_lane n * j + (Cells.literal).size * i);
    literal = λ j i. W (a.literals + Cells.free + Cells.literal_lane n * j + (Cells.literal).size * i);
    some = λ j i. W (a.counts + Cells.count_lane n * j + (Cells.count).size * i);
    many = λ j i. W (a.counts + Cells.many + Cells.count_lane n * j + (Cells.count).size * i);
    high = λ j. W (a.ranks + Cells.high + (Cells.rank).size * j);
    low = λ j. W (a.ranks + Cells.low + (Cells.rank).size * j);
    sum = λ d j k. W (digit_after a d + (1 + thresholds n d) * j + k);
    key = λ j i. W (a.keys + a.m * i + j);
    left = λ p i. W (a.tree + Cells.left + Cells.tree_lane b * suc p + (Cells.node).size * i);
    differs = λ p i. W (a.tree + Cells.differs + Cells.tree_lane b * suc p + (Cells.node).size * i);
    greater = λ p i. W (a.tree + Cells.tree_lane b * suc p + (Cells.node).size * i);
    keep = λ p. W (a.tree + Cells.tree_lane b * suc p + (Cells.node).size * (3 + b));
    greatest = λ i. W (a.greatest + Cells.kept + (Cells.choice).size * i);
    act = W (a.rule + Cells.act);
    node = λ d k. W (a.rule + Cells.decoder + 2 ^ d + k);
  }

  abbrev pub second_wires : Second.Wires
  second_wires = record {
    now = state_at n (λ k. W (a.state + k));
    high = W (a.greatest + Cells.kept + (Cells.choice).size * (2 + b));
    low = W (a.greatest + Cells.kept + (Cells.choice).size * (1 + b));
    sign = W (a.greatest + Cells.kept);
    rule = record {
      done = W (a.rule + Cells.done);
      refute = W (a.rule + Cells.refute);
      pop = W (a.rule + Cells.pop);
      push = W (a.rule + Cells.push);
      set_f = W (a.rule + Cells.set_f);
      set_t = W (a.rule + Cells.act) ⊕ W (a.rule + Cells.set_f);
    };
    act = W (a.rule + Cells.act);
    variable = λ i. W (a.rule + Cells.decoder + 2 ^ b + (2 ^ b - n) + i);
    sets_f = λ i. W (a.targets + (Cells.target).size * i);
    pushed = λ i. W (a.targets + Cells.pushed + (Cells.target).size * i);
    sets_t = λ i. W (a.targets + Cells.sets_t + (Cells.target).size * i);
    pop_t = λ i. W (a.guards + (Cells.guard).size * i);
    push_t = λ i. W (a.guards + Cells.saved + (Cells.guard).size * i);
    pop_f = λ i. W (guards_f a + (Cells.guard).size * i);
    push_f = λ i. W (guards_f a + Cells.saved + (Cells.guard).size * i);
    changes = λ k. W (a.selects + (Cells.select).size * k);
    δlevel_t = λ k i. W (a.levels + Cells.level_change + Cells.level_lane n * i + (Cells.level).size * k);
    δlevel_f = λ k i. W (a.levels + a.block + Cells.level_change + Cells.level_lane n * i + (Cells.level).size * k);
    δchosen = λ k i. W (a.levels + 2 * a.block + Cells.level_change + Cells.level_lane n * i + (Cells.level).size * k);
    total_t = λ i k. W (a.levels + Cells.level_lane n * i + (Cells.level).size * k);
    total_f = λ i k. W (a.levels + a.block + Cells.level_lane n * i + (Cells.level).size * k);
    total_v = λ i k. W (a.levels + 2 * a.block + Cells.level_lane n * i + (Cells.level).size * k);
    δT = λ i. W (a.assignments + Cells.change + (Cells.assignment).size * i);
    δF = λ i. W (a.assignments + (Cells.assignment).size * n + Cells.change + (Cells.assignment).size * i);
    δdepth = λ k. W (a.depths + k);
    next = state_at n (λ k. W (a.outputs + k));
    closing = W (levels_from n a.outputs + 3 * n * n + 2);
  }

  pub halves-joined : Joined n b first_wires second_wires
  halves-joined = record {
    t_same = λ i h. refl;
    f_same = λ i h. ap W (omega arith);
    high_same = ap W (omega arith);
    low_same = ap W (omega arith);
    sign_same = ap W (omega arith);
    act-same = refl;
    variable_same = λ i h. ap W (omega arith);
  }

  module _ (s : Sections W a) where
    pub zero-wire : W a.inputs ≡ false
    unfolding wires_of ordered
    zero-wire = cell_at W Templates.sum refl none a.inputs s.zero_gate-holds none (omega arith) refl 0 _ (omega arith) (omega arith) ∙ xor_self (W 0)

    -- a wire and the zero gate
    pub copied : (x : ℕ) → W x ⊕ W a.inputs ≡ W x
    copied x = ap (λ (z : Bool). W x ⊕ z) zero-wire ∙ xor_false (W x)
