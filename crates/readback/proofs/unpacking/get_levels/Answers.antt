-- `get_levels` meets its contract. The loop's invariant: the levels below the index are read, and `next` is the place after them.
use mathlib.Core.Path.{◌≡◌, refl, ap, ◌∙◌}
use native.Mathlib.Omega.{arith}
use Prim.Native.Nat.{ℕ, ◌+◌, ◌*◌}
use native.Mathlib.Nat.{mul-zero, mul-suc}
use native.Mathlib.Numerals.{add-one}
use lib.ListN.{length}
use Rattle.state.specs.declared.Level.{Level}
use Rattle.wires.specs.Bits.{level_at}
use Rattle.readback.specs.Unpacking.{last_first}
use Rattle.readback.specs.Levels.{level_from}
use Rattle.readback.proofs.ArrayLevels.{read-turn, first_part, read_end}
use Rattle.readback.proofs.unpacking.get_levels.Goals as goal

pub loop-level-init : goal.loop-level-init
unfolding last_first
loop-level-init c = (omega (arith, mul-zero (c.args.n + (c.args.n + c.args.n))), refl)

pub loop-level-preserved : goal.loop-level-preserved
loop-level-preserved c =
    let l = c.loop-level in
    let w : ℕ = c.args.n + (c.args.n + c.args.n) in
    let a : ℕ → Level = λ i. level_from c.args.n c.args.bytes.now (c.args.at + level_at c.args.n i) in (
      omega (arith, l.invariant.0, mul-suc w l.level-index, ap (λ (k : ℕ). w * k) (add-one l.level-index)),
      read-turn a l.level-index l.level-items _ (omega arith) l.invariant.1
          (c.get_level.ensures ∙ ap (level_from c.args.n c.args.bytes.now) l.invariant.0),
    )

pub returns : goal.returns
returns c =
    let l = c.loop-level in
    let a : ℕ → Level = λ i. level_from c.args.n c.args.bytes.now (c.args.at + level_at c.args.n i) in
    let size : length l.level-items ≡ c.args.depth = l.auto.level-items ∙ first_part c.args.depth c.requires.depth_bound in
    read_end a c.args.depth l.level-index l.level-items size (omega arith) l.invariant.1
