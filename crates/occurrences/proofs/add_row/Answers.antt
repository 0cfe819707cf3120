-- `add_row` meets its contract: the next row is in no set yet, and turned over in those of its literals.
use mathlib.Core.Path.{ap, ◌∙◌}
use Rattle.occurrences.specs.RowWords.{literals_of}
use Rattle.occurrences.proofs.ReplacedRow.{row-added}
use Rattle.occurrences.proofs.add_row.Goals as goal

pub returns : goal.returns
returns c =
    c.turn_row.ensures
    ∙ row-added c.args.words.now c.args.r _ _ (c.literals.ensures ∙ ap literals_of c.row_at-row.ensures) c.requires.index_value
