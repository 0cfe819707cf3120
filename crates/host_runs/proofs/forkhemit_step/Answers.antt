-- `forkhemit_step` meets its contract: the step is that of the numbers as bytes and of the run in the words, and stored where it is taken.
use mathlib.Core.Path.{ap, ◌∙◌}
use Rattle.refusals.specs.Numbers.{code_of}
use Rattle.lent.specs.Lent.{stored_if}
use Rattle.host_runs.proofs.forkhemit_step.Goals as goal

pub returns : goal.returns
returns c =
    let gave = rw (c.load-next.ensures, c.dimensions-d.ensures) at c.step-outcome.ensures in record {
      value = c.code.ensures ∙ ap code_of gave.value;
      run_after = c.store_if.ensures ∙ (λ i. stored_if (gave.value i) (gave.run_after i) c.args.run.now);
    }
