-- `lane` meets its contract: zeros are cells too, and the others follow them.
use mathlib.Core.Path.{refl}
use Prim.Native.Nat.{◌+◌, ◌*◌, ◌-◌}
use native.Mathlib.Omega.{arith}
use Rattle.generator.specs.Storing.{gates_in}
use Rattle.generator.proofs.Placing.{lane_whole}
use Rattle.generator.proofs.cells.lane.Goals as goal

pub cells-requires : goal.cells-requires
cells-requires c =
    record {
      template_value = (refl, omega arith);
      n_bound = (omega arith, omega arith, omega arith);
      below = (omega arith, omega arith);
      n_in_bounds = omega arith;
    }

pub cells-requires-2 : goal.cells-requires-2
cells-requires-2 c =
    let k = c.cells.auto.words in
    record {
      template_value = (c.requires.template_value.0, c.requires.template_value.1);
      n_bound = (omega arith, omega arith, omega arith);
      below = (c.requires.below.0, c.requires.below.1);
      n_in_bounds = omega arith;
    }

pub returns : goal.returns
returns c =
    lane_whole c.args.zeros (gates_in c.args.template.now) c.args.slots c.args.steps c.args.base c.args.n c.args.words.now _ _
    (3 * (c.args.base - c.args.inputs)) (3 * (c.args.base + c.args.zeros - c.args.inputs))
    c.cells.ensures (omega arith) c.cells-2.ensures
