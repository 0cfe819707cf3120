-- `forkhemit_accept` meets its contract: the acceptance is that of the numbers as bytes, and its outcome is given as a number.
use mathlib.Core.Path.{ap, ◌∙◌}
use Rattle.refusals.specs.Numbers.{code_of}
use Rattle.host_runs.proofs.forkhemit_accept.Goals as goal

pub returns : goal.returns
returns c = c.code.ensures ∙ ap code_of (rw c.dimensions-d.ensures at c.accept.ensures.value)
