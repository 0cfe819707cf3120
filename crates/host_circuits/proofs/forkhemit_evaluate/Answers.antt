-- `forkhemit_evaluate` meets its contract: it is the evaluator's, with the outcome as a number.
use mathlib.Core.Path.{ap, ◌∙◌}
use Rattle.refusals.specs.Numbers.{code_of}
use Rattle.host_circuits.proofs.forkhemit_evaluate.Goals as goal

pub returns : goal.returns
returns c =
    record {
      value = c.code.ensures ∙ ap code_of c.evaluate.ensures.value;
      wires_after = c.evaluate.ensures.wires_after;
    }
