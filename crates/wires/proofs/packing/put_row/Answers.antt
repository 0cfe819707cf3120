-- `put_row` meets its contract: the negative wires follow the positive.
use mathlib.Core.Path.{◌≡◌}
use native.Mathlib.Omega.{arith}
use lib.ListN.{length}
use Rattle.words.specs.Sets.{bit}
use Rattle.wires.proofs.Stores.{upto-then}
use Rattle.wires.proofs.packing.put_row.Goals as goal

pub put_set-requires : goal.put_set-requires
put_set-requires c =
    let l : length c.put_set-middle.new.bytes ≡ length c.args.bytes.now = c.put_set-middle.auto.bytes in
    record { n_bound = omega arith; n_in_bounds = omega (arith, c.put_set-middle.ensures.value) }

pub returns : goal.returns
returns c =
    record {
      value = omega (arith, c.put_set-middle.ensures.value, c.put_set.ensures.value);
      bytes_after = upto-then c.args.bytes.now c.args.at _ (bit c.args.row.positive)
          c.args.n _ c.put_set-middle.ensures.bytes_after c.put_set-middle.ensures.value c.put_set.ensures.bytes_after;
    }
