-- `all_true` meets its contract: where all variables are set, the rows decide.
use mathlib.Core.Path.{sym, ◌∙◌}
use Rattle.scan.specs.Rules.{rows_of_words}
use Rattle.game.proofs.Laws.{full-decided, full_undecided}
use Rattle.game.proofs.all_true.Goals as goal

pub returns-in_default : goal.returns-in_default
returns-in_default c = full_undecided (rows_of_words c.args.rows.now) c.args.t c.ranges.t.fits (sym c.cut.ensures ∙ c.in_default.is)

pub returns : goal.returns
returns c = full-decided (rows_of_words c.args.rows.now) c.args.t c.ranges.t.fits _ (sym c.cut.ensures ∙ c.in-Some.is)
