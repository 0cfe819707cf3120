-- `forkhemit_count_free` meets its contract: the counts are those of the numbers as bytes and of the run in the words, with the outcome as a number.
use mathlib.Core.Path.{ap, ◌∙◌}
use Rattle.refusals.specs.Numbers.{code_of}
use Rattle.host_runs.proofs.forkhemit_count_free.Goals as goal

pub returns : goal.returns
returns c =
    let e = c.count_free.ensures in record {
      value = c.code.ensures ∙ ap code_of (rw (c.load-run.ensures, c.dimensions-d.ensures) at e.value);
      counts_after = rw (c.load-run.ensures, c.dimensions-d.ensures) at e.counts_after;
    }
