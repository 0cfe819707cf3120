-- `forkhemit_index` meets its contract: the index is that of the numbers as bytes, and its outcome is given as a number.
use mathlib.Core.Path.{ap, ◌∙◌}
use Rattle.refusals.specs.Numbers.{code_of}
use Rattle.host_indexed.proofs.forkhemit_index.Goals as goal

pub returns : goal.returns
returns c =
    let e = c.index.ensures in record {
      value = c.code.ensures ∙ ap code_of (rw c.dimensions-d.ensures at e.value);
      index_after = rw c.dimensions-d.ensures at e.index_after;
    }
