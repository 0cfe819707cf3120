-- `refused_line` meets its contract: the appends are one, and what they append has room.
use mathlib.Core.Path.{ap, ◌∙◌}
use Prim.Native.Nat.{ℕ}
use Rattle.text.specs.Texts.{appended}
use Rattle.text.specs.Decimal.{decimal}
use Rattle.text.proofs.Refusals.{refused_composed}
use Rattle.text.proofs.refused_line.Goals as goal

pub returns : goal.returns
returns c =
    refused_composed c.args.given c.empty.result c.append.result
    c.decimal.result c.append-2.result
    c.empty.ensures c.append.ensures
    (c.decimal.ensures ∙ ap (λ (x : ℕ). appended c.append.result (decimal x)) c.from.ensures)
    c.append-2.ensures
