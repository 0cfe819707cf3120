-- `put_state` meets its contract: its parts follow one another.
use mathlib.Core.Path.{sym, ap, ◌∙◌}
use Prim.Native.Nat.{ℕ, ◌+◌}
use lib.Dec.{eqb}
use Rattle.words.specs.Sets.{bit}
use Rattle.wires.specs.Levels.{levels_bits}
use Rattle.wires.proofs.Series.{length-joined}
use Rattle.wires.proofs.Lengths.{level-length}
use Rattle.wires.proofs.Stores.{stored, stored-then, upto-then}
use Rattle.wires.proofs.Levels.{state_parts}
use Rattle.wires.proofs.packing.put_state.Goals as goal

pub returns : goal.returns
returns c =
    let n = c.args.n in
    let run = c.args.run in
    let p = c.put_set-behind_t in
    let q = c.put_set-behind_f in
    let r = c.put_one-behind_depth in
    let u = c.put_levels-behind_levels in
    let v = c.put_standing in
    let e = length-joined (n + (n + n)) _ n (λ l. level-length n _ _ _) in
    upto-then c.args.bytes.now c.args.at _ (bit run.t) n _ c.put_set-behind_t.ensures.bytes_after c.put_set-behind_t.ensures.value
    (upto-then _ _ _ (bit run.f) n _ c.put_set-behind_f.ensures.bytes_after c.put_set-behind_f.ensures.value
    (upto-then _ _ _ (λ k. eqb k run.depth) (n + 1) _ c.put_one-behind_depth.ensures.bytes_after c.put_one-behind_depth.ensures.value
    (stored-then _ _ _ (levels_bits n run.levels run.depth n) _ c.put_levels-behind_levels.ensures.bytes_after
    (c.put_levels-behind_levels.ensures.value ∙ ap (λ (k : ℕ). r.result + k) (sym e)) c.put_standing.ensures)))
    ∙ ap (stored c.args.bytes.now c.args.at) (state_parts n run)
