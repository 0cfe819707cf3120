-- `Dimensions::state_wires` meets its contract: by its own n.
use Rattle.dimensions.proofs.Dimensions.state_wires.Goals as goal

pub returns : goal.returns
returns c = c.state_wires_of.ensures
