-- `gate_value` meets its contract: the table's entry is the value, at each kind and each pair of wires.
use Rattle.two_pass.proofs.InPlace.{table_at}
use Rattle.two_pass.proofs.gate_value.Goals as goal

pub returns : goal.returns
returns c =
    rw c.requires.values_value (table_at c.args.kind c.args.a c.args.b c.requires.kind_bound c.requires.a_bound.0 c.requires.a_bound.1)
