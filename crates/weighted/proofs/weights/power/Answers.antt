-- `power` meets its contract: the pattern is the one of 2 ^ -k.
use Rattle.weighted.proofs.Patterns.{pattern_number, pattern_power}
use Rattle.weighted.proofs.weights.power.Goals as goal

pub float_from_bits-result : goal.float_from_bits-result
float_from_bits-result c = pattern_number c.args.k c.requires

pub returns : goal.returns
returns c = pattern_power c.args.k c.requires
