-- `put_level` meets its contract: F follows T, and the chosen variable follows F.
use mathlib.Core.Path.{◌≡◌}
use native.Mathlib.Omega.{arith}
use lib.ListN.{length}
use Rattle.words.specs.Sets.{bit}
use Rattle.wires.proofs.Stores.{upto-then}
use Rattle.wires.proofs.packing.put_level.Goals as goal

pub put_set-behind_f-requires : goal.put_set-behind_f-requires
put_set-behind_f-requires c =
    let l : length c.put_set-behind_t.new.bytes ≡ length c.args.bytes.now = c.put_set-behind_t.auto.bytes in
    record { n_bound = omega arith; n_in_bounds = omega (arith, c.put_set-behind_t.ensures.value) }

pub put_one-requires : goal.put_one-requires
put_one-requires c =
    let k : length c.put_set-behind_t.new.bytes ≡ length c.args.bytes.now = c.put_set-behind_t.auto.bytes in
    let l : length c.put_set-behind_f.new.bytes ≡ length c.put_set-behind_t.new.bytes = c.put_set-behind_f.auto.bytes in
    omega (arith, c.put_set-behind_t.ensures.value, c.put_set-behind_f.ensures.value)

pub returns : goal.returns
returns c =
    record {
      value = omega (arith, c.put_set-behind_t.ensures.value, c.put_set-behind_f.ensures.value, c.put_one.ensures.value);
      bytes_after = upto-then c.args.bytes.now c.args.at _ (bit c.args.level.t) c.args.n _ c.put_set-behind_t.ensures.bytes_after
          c.put_set-behind_t.ensures.value
          (upto-then _ _ _ (bit c.args.level.f) c.args.n _ c.put_set-behind_f.ensures.bytes_after c.put_set-behind_f.ensures.value
          c.put_one.ensures.bytes_after);
    }
