-- `next_standing` meets its contract: the closing wires are the last two of the state's.
use mathlib.Core.Path.{◌≡◌}
use Prim.Native.Nat.{ℕ, ◌+◌, ◌-◌, ◌*◌}
use native.Mathlib.Omega.{arith}
use Rattle.sections.proofs.outputs.next_standing.Goals as goal

base-is : (k n : ℕ) → k + (3 * n * n + 3 * n + 3) - 2 ≡ k + 3 * n + 1 + 3 * n * n
base-is k n = omega arith

pub returns : goal.returns
returns c = let a = c.args.a in rw (c.state_wires_of-next_state.ensures, base-is a.outputs a.n)
