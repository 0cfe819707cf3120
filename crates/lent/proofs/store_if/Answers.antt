-- `store_if` meets its contract: the words are the callee's, and a refusal stores none.
use mathlib.Core.Path.{sym, ap, ◌∙◌}
use Rattle.refusals.specs.Numbers.{Outcome}
use Rattle.lent.specs.Lent.{stored_if}
use Rattle.lent.proofs.store_if.Goals as goal

pub returns-in-Ok : goal.returns-in-Ok
returns-in-Ok c =
    c.words.ensures ∙ ap (λ (o : Outcome). stored_if o c.args.run c.args.lent.now) (sym c.in-Ok.is)
