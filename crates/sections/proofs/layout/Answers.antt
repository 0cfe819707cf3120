-- `layout` meets its contract: by what its two parts give, and by the wires of a state.
use mathlib.Core.Path.{◌≡◌}
use Prim.Native.Nat.{ℕ, ◌+◌, ◌-◌, ◌*◌}
use native.Mathlib.Omega.{arith}
use Rattle.sections.proofs.layout.Goals as goal

-- ---- the wires of a state, as the addresses count them

inputs_are : (k n : ℕ) → k + (3 * n * n + 3 * n + 3) ≡ k + 3 * n + 1 + 3 * (n * n) + 2
inputs_are k n = omega arith

standing-is : (k : ℕ) → k + 2 - 2 ≡ k
standing-is k = omega arith

wires_are : (k n : ℕ) → k + (3 * n * n + 3 * n + 3) + 1 ≡ k + 3 * n + 4 + 3 * (n * n)
wires_are k n = omega arith

pub returns : goal.returns
returns c =
    let s = c.args in
    rw (
      c.state_wires_of-state_wires.ensures,
      wires_are c.layout_acting-c.result.outputs s.n,
      c.layout_acting-c.ensures.value,
      c.layout_reading-r.ensures.value,
      c.state_wires_of-state_wires.ensures,
      inputs_are (2 * (s.n * s.m)) s.n,
      standing-is (2 * (s.n * s.m) + 3 * s.n + 1 + 3 * (s.n * s.n)),
    )
