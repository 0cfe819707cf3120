-- `gate` meets its contract: the kind picks the definition's case.
use mathlib.Core.Path.{◌≡◌, refl, sym, ap, ◌∙◌}
use Prim.Native.Nat.{ℕ, zero, suc, ◌≤◌}
use native.Mathlib.Omega.{arith}
use Rattle.gates.specs.Gates.{Gate}
use Rattle.gates.specs.Gates.Gate.{INV}
use Rattle.gates.specs.Memory.{gate_of}
use Rattle.bristol_line.specs.Lines.{gate_line}
use Rattle.bristol_line.specs.ByValue.{circuit_line_of}
use Rattle.bristol_line.proofs.CircuitLine.gate.Goals as goal

-- a kind that is neither XOR nor AND
gate-inv : (k a b : ℕ) → 2 ≤ k → gate_of k a b ≡ INV a
gate-inv zero a b h = absurd (omega arith)
gate-inv (suc zero) a b h = absurd (omega arith)
gate-inv (suc (suc k)) a b h = refl

pub returns-in-0 : goal.returns-in-0
returns-in-0 c =
    let start = c.args in
    c.two_inputs.ensures ∙ ap (λ (k : ℕ). circuit_line_of (gate_line start.wire (gate_of k start.a start.b))) (sym c.in-0.is)

pub returns-in-1 : goal.returns-in-1
returns-in-1 c =
    let start = c.args in
    c.two_inputs-in-1.ensures ∙ ap (λ (k : ℕ). circuit_line_of (gate_line start.wire (gate_of k start.a start.b))) (sym c.in-1.is)

pub returns-in_default : goal.returns-in_default
returns-in_default c =
    let start = c.args in
    c.one_input.ensures ∙ ap (λ (g : Gate). circuit_line_of (gate_line start.wire g)) (sym (gate-inv start.kind start.a start.b (omega arith)))
