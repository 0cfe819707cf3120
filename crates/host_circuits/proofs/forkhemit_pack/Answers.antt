-- `forkhemit_pack` meets its contract: packing is that of the numbers as bytes and of the run in the words, with the outcome as a number.
use mathlib.Core.Path.{ap, ◌∙◌}
use Rattle.refusals.specs.Numbers.{code_of}
use Rattle.host_circuits.proofs.forkhemit_pack.Goals as goal

pub returns : goal.returns
returns c =
    let e = c.pack.ensures in record {
      value = c.code.ensures ∙ ap code_of (rw (c.load.ensures, c.dimensions-d.ensures) at e.value);
      bytes_after = rw (c.load.ensures, c.dimensions-d.ensures) at e.bytes_after;
    }
