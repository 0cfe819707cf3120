-- `read_both` meets its contract: each number is held as it is read, and judged so.
use mathlib.Core.Path.{sym, ◌∙◌}
use native.Mathlib.Omega.{arith}
use Rattle.header.proofs.Limits.{no_n, no_m, both}
use Rattle.header.proofs.read_both.Goals as goal

pub returns-in_default : goal.returns-in_default
returns-in_default c =
    sym (no_n c.args.least _ _ (sym c.read_number.ensures ∙ c.in_default.is))

pub returns-in_default-read_number : goal.returns-in_default-read_number
returns-in_default-read_number c =
    sym (no_m c.args.least _ _ (sym c.read_number-2.ensures ∙ c.in_default-read_number.is))

pub returns : goal.returns
returns c =
    c.check_limits.ensures
    ∙ both c.args.least _ _ (omega arith) _ _ _ _ (sym c.read_number.ensures ∙ c.in-Some.is)
    (sym c.read_number-2.ensures ∙ c.in-Some-read_number.is)
