-- `put_levels` meets its contract. The loop's invariant: the levels below `l` are stored, and `next` is the place after them.
use mathlib.Core.Path.{◌≡◌, ap, ◌∙◌}
use native.Mathlib.Omega.{arith}
use Prim.Native.Nat.{ℕ, ◌+◌, ◌*◌}
use Rattle.state.specs.declared.Level.{Level}
use Rattle.wires.specs.Levels.{level_bits, levels_bits}
use Rattle.wires.proofs.Lengths.{level-length}
use Rattle.wires.proofs.Stores.{stored, list-start, list-room, list-turn}
use borrow.Author.Rules.{rules}
use Rattle.wires.proofs.packing.put_levels.Goals as goal

pub loop-l-init : goal.loop-l-init
loop-l-init c = list-start _ _ _ _

pub put_level-next-requires : goal.put_level-next-requires
put_level-next-requires c =
    record { n_bound = search rules; n_in_bounds = list-room _ _ _ _ _ _ _ c.loop-l.invariant c.args.n c.loop-l-test.true c.requires.n_in_bounds }

pub loop-l-preserved : goal.loop-l-preserved
loop-l-preserved c =
    list-turn _ _ _ _ _ _ _ c.loop-l.invariant _ _ (λ j. level-length c.args.n _ _ _)
    (c.put_level-next.ensures.bytes_after ∙ ap (λ (x : Level). stored c.loop-l.bytes c.loop-l.next (level_bits c.args.n x))
    c.level_at-level.ensures) c.put_level-next.ensures.value

pub returns : goal.returns
returns c =
    let e : c.loop-l.l ≡ c.args.n = omega arith in
    record {
      value = c.loop-l.invariant.place ∙ ap (λ (k : ℕ). c.args.at + (c.args.n + (c.args.n + c.args.n)) * k) e;
      bytes_after = c.loop-l.invariant.bytes ∙ ap (λ (k : ℕ). stored c.args.bytes.now c.args.at (levels_bits c.args.n c.args.levels c.args.depth k)) e;
    }
