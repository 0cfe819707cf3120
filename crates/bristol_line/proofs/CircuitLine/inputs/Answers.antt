-- `inputs` meets its contract: whether there are public rows picks the definition's case.
use mathlib.Core.Path.{sym, ap, ◌∙◌}
use mathlib.Core.Bool.{Bool, cond}
use borrow.Author.Tests.{eq-eqb, ne_eqb}
use Rattle.dimensions.specs.declared.Dimensions.{Dimensions}
use Rattle.bristol_line.specs.declared.CircuitLine.{CircuitLine}
use Rattle.bristol_line.specs.Lines.{line, three_values, four_values}
use Rattle.bristol_line.specs.ByValue.{circuit_line_of}
use Rattle.bristol_line.proofs.CircuitLine.inputs.Goals as goal

-- the line, by whether the public row count is 0
abbrev told : Dimensions → Bool → CircuitLine
told d none = circuit_line_of (line (cond none (three_values d) (four_values d)))

pub returns-then-d-eq0 : goal.returns-then-d-eq0
returns-then-d-eq0 c = c.three_values.ensures ∙ ap (told _) (sym (eq-eqb _ 0 c.if-d-eq0.true))

pub returns : goal.returns
returns c = c.four_values.ensures ∙ ap (told _) (sym (ne_eqb _ 0 c.if-d-eq0.false))
