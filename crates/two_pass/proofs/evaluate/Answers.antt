-- `evaluate` meets its contract: each return cites the law of what its checks found.
use mathlib.Core.Path.{◌≡◌, sym, ◌∙◌, ap}
use mathlib.Core.Bool.{true}
use native.Mathlib.Omega.{arith}
use Rattle.refusals.proofs.Outcomes.{also_said}
use mathlib.Core.List.{List, ◌++◌}
use Prim.Native.Nat.{ℕ}
use lib.ListN.{length, drop, length-append, length-drop}
use Rattle.gates.specs.Memory.{gates_of, accepted, bits}
use Rattle.two_pass.proofs.InPlace.{copied, written}
use Rattle.two_pass.proofs.Evaluation.{no_gates, no_room, no_bits, taken}
use Rattle.two_pass.proofs.evaluate.Goals as goal
use Rattle.two_pass.proofs.evaluate.Goals.{After-copy_from_slice, Else-not-accepted, Else-not-bits}

-- the gates were taken
accepts : (c : Else-not-accepted) → accepted (length c.args.inputs.now) c.args.gates.now ≡ true
accepts c = sym c.accepted.ensures ∙ c.if-not-accepted.false

-- the inputs are bits
are-bits : (c : Else-not-bits) → bits c.args.inputs.now ≡ true
are-bits c = sym c.bits.ensures ∙ c.if-not-bits.false

pub returns-then-not-accepted : goal.returns-then-not-accepted
returns-then-not-accepted c =
    let s = c.args in
    let t = also_said (no_gates s.gates.now s.inputs.now s.wires.now (sym c.accepted.ensures ∙ c.if-not-accepted.true)) in
    record { value = t.0; wires_after = t.1.0; result_value = t.1.1 }

pub returns-then-wires-n : goal.returns-then-wires-n
returns-then-wires-n c =
    let s = c.args in
    let a = accepts (goal.at.returns-then-wires-n c).Else-not-accepted in
    let t = also_said (no_room s.gates.now s.inputs.now s.wires.now a (omega arith)) in
    record { value = t.0; wires_after = t.1.0; result_value = t.1.1 }

pub returns-then-not-bits : goal.returns-then-not-bits
returns-then-not-bits c =
    let s = c.args in
    let a = accepts (goal.at.returns-then-not-bits c).Else-not-accepted in
    let b = sym c.bits.ensures ∙ c.if-not-bits.true in
    let t = also_said (no_bits s.gates.now s.inputs.now s.wires.now a (omega arith) b) in
    record { value = t.0; wires_after = t.1.0; result_value = t.1.1 }

-- the inputs at the buffer's front
front : (c : After-copy_from_slice)
    → let s = c.args in
    c.copy_from_slice.new.self ++ drop (length s.inputs.now) s.wires.now ≡ s.inputs.now ++ drop (length s.inputs.now) s.wires.now
front c = ap (λ (l : List ℕ). l ++ drop (length c.args.inputs.now) c.args.wires.now) c.copy_from_slice.ensures.after

pub run-requires : goal.run-requires
run-requires c =
    let s = c.args in
    let p = goal.at.run-requires c in
    let f = front p.After-copy_from_slice in
    record {
      gates_value = accepts p.Else-not-accepted;
      gates_in_bounds = simp (f, length-append, length-drop) (omega arith);
      wires_value = ap bits (copied s.inputs.now s.wires.now _ f) ∙ are-bits p.Else-not-bits;
    }

pub returns : goal.returns
returns c =
    let s = c.args in
    let g = s.gates.now in
    let p = goal.at.returns c in
    let t = taken g s.inputs.now s.wires.now (accepts p.Else-not-accepted) (omega arith) (are-bits p.Else-not-bits) in
    let e = written s.inputs.now s.wires.now _ (front p.After-copy_from_slice) (gates_of g) _ c.run.ensures in
    let q = also_said (t.0, e ∙ t.1) in
    record { value = q.0; wires_after = q.1.0; result_value = q.1.1 }
