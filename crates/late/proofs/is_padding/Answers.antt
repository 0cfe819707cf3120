-- `is_padding` meets its contract: a row is padding where its words have a bit in common.
use mathlib.Core.Path.{ap, ◌∙◌}
use Rattle.tables.specs.Rows.{padding}
use Rattle.late.proofs.Checks.{padding-word}
use Rattle.late.proofs.is_padding.Goals as goal

pub returns : goal.returns
returns c = padding-word c.row_at-row.result c.struct_known-1.given.0.fits ∙ ap (padding 32) c.row_at-row.ensures
