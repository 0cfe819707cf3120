-- `forkhemit_rows` meets its contract: the entry's outcome as a number, and the words that it leaves.
use mathlib.Core.Path.{ap, ◌∙◌}
use Rattle.refusals.specs.Numbers.{code_of}
use Rattle.host_columns.proofs.forkhemit_rows.Goals as goal

pub returns : goal.returns
returns c =
    record { value = c.code.ensures ∙ ap code_of c.from_planes.ensures.value; table_after = c.from_planes.ensures.table_after }
