-- `get_run` meets its contract: its callees read the wires where the definition has them.
use Prim.Native.Nat.{◌-◌}
use native.Mathlib.Omega.{arith}
use Rattle.readback.proofs.RunRead.{levels-room, run-read}
use borrow.Author.Rules.{rules}
use Rattle.readback.proofs.unpacking.get_run.Goals as goal

pub get_levels-levels-requires : goal.get_levels-levels-requires
get_levels-levels-requires c =
    record {
      n_bound = search rules;
      depth_bound = omega (arith, c.get_one-depth.ensures.upper_bound);
      depth_in_bounds = levels-room c.args.n c.args.bytes.now c.get_one-depth.result c.get_one-depth.ensures.upper_bound c.requires.n_in_bounds;
    }

pub returns : goal.returns
returns c =
    run-read c.args.n c.args.bytes.now (c.state_wires_of-last.result - 2) (omega (arith, c.state_wires_of-last.ensures))
    _ _ _ _ _ c.standing-standing.ensures c.get_set-t.ensures c.get_set-f.ensures
    c.get_one-depth.ensures.value c.get_levels-levels.ensures
