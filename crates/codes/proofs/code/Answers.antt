-- `code` meets its contract: 0, or the number of the refusal that the outcome holds.
use mathlib.Core.Path.{sym, ap, ◌∙◌}
use Rattle.refusals.specs.Numbers.{code_of}
use Rattle.codes.proofs.code.Goals as goal

pub returns-in-Err : goal.returns-in-Err
returns-in-Err c = c.from.ensures ∙ sym (ap code_of c.in-Err.is)
