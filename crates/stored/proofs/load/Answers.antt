-- `load` meets its contract: the run of words that hold one, or else the run of no variables.
use mathlib.Core.Path.{sym, ◌∙◌}
use Rattle.stored.proofs.Holding.{no_run, held-run}
use Rattle.stored.proofs.load.Goals as goal

pub returns-then-not-holds : goal.returns-then-not-holds
returns-then-not-holds c =
    c.fresh.ensures ∙ sym (no_run c.args.words (sym c.holds.ensures ∙ c.if-not-holds.true))

pub get_run-requires : goal.get_run-requires
get_run-requires c = sym c.holds.ensures ∙ c.if-not-holds.false

pub returns : goal.returns
returns c =
    c.get_run.ensures ∙ sym (held-run c.args.words (sym c.holds.ensures ∙ c.if-not-holds.false))
