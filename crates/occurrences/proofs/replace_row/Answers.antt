-- `replace_row` meets its contract: the literals that one of the two rows holds and the other does not are turned over; a row past the last set's is in none.
use mathlib.Core.Path.{◌∙◌}
use native.Mathlib.Omega.{arith}
use Rattle.occurrences.proofs.ReplacedRow.{turned-replaced, past_replaced}
use Rattle.occurrences.proofs.replace_row.Goals as goal

pub returns-then-row-lt384 : goal.returns-then-row-lt384
returns-then-row-lt384 c =
    let s = c.args in
    c.turn_row.ensures ∙ turned-replaced s.index.now s.row s.old s.new _ _ c.literals.ensures c.literals-then-row-lt384.ensures

pub returns-else-row-lt384 : goal.returns-else-row-lt384
returns-else-row-lt384 c = let s = c.args in past_replaced s.index.now s.row s.old s.new (omega arith)
